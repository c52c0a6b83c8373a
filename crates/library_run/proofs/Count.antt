-- The checks allowed, as the caller reads them.
pub mod Refusals
pub mod CountLaws
pub mod NumberLaws
