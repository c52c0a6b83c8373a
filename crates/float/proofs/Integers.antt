-- Integers and floats.
pub mod Integral
