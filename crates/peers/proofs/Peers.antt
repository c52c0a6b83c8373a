-- The peers: their tables, validity, reports, departures and readers; what every call keeps (`Theorems`).
pub mod CallLaws
pub mod Departures
pub mod Points
pub mod Readers
pub mod Reports
pub mod StepLaws
pub mod Tables
pub mod Theorems
pub mod Validity
