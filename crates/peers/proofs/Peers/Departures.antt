-- What departures and time do.
pub mod DepartureLaws
pub mod ExpireLaws
pub mod StayLaws
