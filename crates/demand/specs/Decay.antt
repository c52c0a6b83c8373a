-- The decay weight, and the exponential that it stands for.
pub mod Exponential
pub mod Weight
