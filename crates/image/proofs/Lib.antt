-- The laws: a valid state is read back from its image (`Reading`), and saved and loaded where there is room (`LoadLaws`).
pub mod Points
pub mod Reading
pub mod Loading
pub mod Saving
