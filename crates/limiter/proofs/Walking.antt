-- The walks of a tick over the tables: what they keep, fold and drop.
pub mod FlagLaws
pub mod RowLaws
pub mod RankLaws
pub mod CutLaws
pub mod CapLaws
pub mod FoldLaws
pub mod ShadowLaws
pub mod IdleLaws
