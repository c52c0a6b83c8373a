-- Each call leaves a valid state, and a tick at most `max_tracked_keys` keys. Between ticks a key's decision depends on its own record and
-- the reading, and a denied key is allowed at its retry time. `check_each` is the list of its checks.
pub mod CheckValidLaws
pub mod TickValidLaws
pub mod TrackedCapLaws
pub mod TrackedLaws
pub mod NewValidLaws
pub mod BetweenTickLaws
pub mod EachCheckLaws
