-- The laws. For the crates above: `Calls` (each call leaves a valid state, a tick at most `max_tracked_keys` keys, what holds between ticks),
-- `States.WrittenLaws` (a valid state is read back as itself), and `LimiterTheorems` (questions 1 and 2 pass again after each call).
pub mod Points
pub mod States
pub mod Validity
pub mod Checking
pub mod Walking
pub mod PassOne
pub mod PassTwo
pub mod Ticking
pub mod Reading
pub mod Listing
pub mod Calls
pub mod LimiterTheorems
