-- The hot set: its entries and their words, its operations, what an update keeps (`Theorems`, `EachTheorems`).
pub mod Acts
pub mod Answers
pub mod EachLaws
pub mod EachTheorems
pub mod EntryLaws
pub mod Map
pub mod Scan
pub mod Table
pub mod Tests
pub mod Theorems
pub mod Words
pub mod ValidLaws
