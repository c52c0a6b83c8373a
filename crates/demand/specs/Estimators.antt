-- A key's demand (004).
pub mod Calls
pub mod Estimator
