pub mod Questions
pub mod Lists
pub mod Refusals
