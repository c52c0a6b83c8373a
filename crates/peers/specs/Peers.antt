-- The peers' demand (002).
pub mod Calls
pub mod Changes
pub mod Readers
pub mod Records
pub mod State
pub mod Steps
pub mod Words
