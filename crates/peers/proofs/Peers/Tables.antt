-- The peers' records in their tables.
pub mod HoldLaws
pub mod KindLaws
pub mod StoreLaws
pub mod TableLaws
pub mod WordLaws
