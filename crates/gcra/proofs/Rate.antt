-- Rates, intervals and the debt that a change of quota carries over.
pub mod Rates
pub mod Fractions
pub mod Carry
