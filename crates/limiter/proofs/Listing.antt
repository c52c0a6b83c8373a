-- The laws of the lists of keys by a rate.
pub mod InsertLaws
pub mod RankTableLaws
pub mod OrderLaws
pub mod RankingLaws
pub mod EntryLaws
pub mod HotLaws
