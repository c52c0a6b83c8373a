-- The test of validity: words, tables, the merge of two ascending tables, settings.
pub mod ScanWordLaws
pub mod MergeLaws
pub mod ValidLaws
pub mod SettingsLaws
