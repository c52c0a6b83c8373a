-- Demand 3 of the library (`Demand3Laws.library-demand3`), and a run of it that reaches the bound (`Witness.ran`).
pub mod Calls
pub mod Runs
pub mod Count
pub mod Demand3Laws
pub mod Witness
