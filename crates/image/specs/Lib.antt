pub mod Image
pub mod Reader
pub mod Kinds
pub mod Calls
pub mod Steps
pub mod LoadSteps
