-- D lies within 64 of S * exp(-e / c) (`Near`), step by step.
pub mod Binomial
pub mod Bounds
pub mod Convolution
pub mod Division
pub mod Near
pub mod Partial
pub mod Powers
pub mod Reciprocal
pub mod Series
pub mod Terms
