pub mod Integral
pub mod Order
pub mod Magnitude
