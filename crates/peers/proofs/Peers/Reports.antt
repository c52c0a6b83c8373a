-- What a report does.
pub mod ApplyLaws
pub mod ContestLaws
pub mod ContestedLaws
pub mod KeptLaws
pub mod KeyLaws
pub mod ReportLaws
pub mod ReportValidLaws
pub mod RoundLaws
pub mod SettleLaws
pub mod TakeLaws
