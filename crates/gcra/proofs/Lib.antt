-- The laws that the proofs of the functions, and the crates above, cite.
pub mod Packed
pub mod Meter
pub mod Rate
