-- Pass one of a tick: the loops over the keys, the hot set's updates, and that together they are `pass_one`.
pub mod ListLaws
pub mod KeyWordLaws
pub mod MeasureLaws
pub mod CopyLaws
pub mod LentKeyLaws
pub mod RewriteLaws
pub mod UpdateLaws
pub mod EachLaws
pub mod PassLaws
pub mod StartLaws
