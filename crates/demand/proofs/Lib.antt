-- The laws, in folders by what they are about.
pub mod Weight
pub mod Estimating
