-- Tables of records, and of what they stand for.
pub mod TableLaws
pub mod TypedLaws
pub mod TabledLaws
pub mod TypedTableLaws
pub mod ScanLaws
