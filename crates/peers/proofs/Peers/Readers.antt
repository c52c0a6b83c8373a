-- What the state says of a key, and of many.
pub mod DemandLaws
pub mod EachLaws
pub mod HeardLaws
pub mod LenLaws
pub mod MarkLaws
pub mod PrimaryLaws
pub mod ReaderLaws
