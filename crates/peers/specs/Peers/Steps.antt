-- What private functions on the peers promise.
pub mod Each
pub mod Heard
pub mod Runs
pub mod Scan
pub mod Stays
