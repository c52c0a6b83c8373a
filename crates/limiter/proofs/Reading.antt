-- The laws of the readers.
pub mod ReaderLaws
