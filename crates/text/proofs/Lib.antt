-- The laws that the proofs of the functions cite, and what holds once standard output has failed.
pub mod Numerals
pub mod Search
pub mod LineLaws
pub mod OutputLaws
