pub mod Words
pub mod Records
pub mod Fields
pub mod Typed
