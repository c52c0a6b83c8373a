-- The laws of the peers.
pub mod Peers
