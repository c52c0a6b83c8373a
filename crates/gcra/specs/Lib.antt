pub mod Packed
pub mod Meter
pub mod Rate
pub mod Run
pub mod Calls
pub mod Schedule
