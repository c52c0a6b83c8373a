-- Records as words, and the parts of a record.
pub mod WordLaws
pub mod RecordLaws
pub mod FieldLaws
pub mod RowLaws
