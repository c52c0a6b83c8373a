-- The meter: virtual scheduling, retry times, counts.
pub mod Checks
pub mod Schedule
pub mod Retry
pub mod Count
