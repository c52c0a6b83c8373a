pub mod Numbers
pub mod Output
pub mod Input
pub mod Steps
