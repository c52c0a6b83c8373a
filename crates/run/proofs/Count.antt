-- The count: what one call may do to a key, the bound that any list of such turns keeps, that every call is one, a list of calls that reaches the
-- bound, and its run.
pub mod Slots
pub mod Turns
pub mod Law
pub mod CallTurns
pub mod Spared
pub mod TraceTurns
pub mod Tight
pub mod Witness
