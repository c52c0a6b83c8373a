-- Checks, traced checks and records: the key's record and its place in the table, one step after the other, and then the call.
pub mod ReadyLaws
pub mod KeyRecordLaws
pub mod KeyTableLaws
pub mod ShadowTableLaws
pub mod CheckLaws
pub mod TraceLaws
pub mod LiftLaws
pub mod TraceLiftLaws
pub mod EachLaws
