-- Quotas in one word.
pub mod Encoding
pub mod Validity
pub mod Packing
pub mod PackedWords
