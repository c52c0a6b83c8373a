-- Estimators: a tick keeps the rate finite with a clear sign bit (`Kept`), alpha is exact (`Alpha`), floats between fractions (`Ranges`).
pub mod Alpha
pub mod Averages
pub mod Kept
pub mod Literals
pub mod Ranges
