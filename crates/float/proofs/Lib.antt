-- The laws that the proofs of the functions, and the crates above, cite.
pub mod Formats
pub mod Tests
pub mod Integers
pub mod Orders
pub mod Stds
pub mod Vectors
