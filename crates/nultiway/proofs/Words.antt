-- Values in lent words.
pub mod ValueLaws
pub mod GcraWordLaws
pub mod HotWordLaws
pub mod DemandWordLaws
pub mod ReportLaws
