-- Laws of records for every width: of their words, their order, searches and changes; of typed tables (`TypedLaws`, `TabledLaws`, `TypedTableLaws`);
-- and of one pass that tests each record and the order (`ScanLaws`).
pub mod Words
pub mod Changes
pub mod Order
pub mod Tables
