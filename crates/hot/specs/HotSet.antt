-- The hot set (003).
pub mod Calls
pub mod Set
pub mod Steps
