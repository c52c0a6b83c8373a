-- What a format holds, and what rounding does.
pub mod Nearest
pub mod Held
pub mod Values
pub mod Patterns
pub mod Magnitudes
pub mod Error
pub mod Products
