pub mod Decay
pub mod Estimators
pub mod Allocation
