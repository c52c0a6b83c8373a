-- The laws of the hot set.
pub mod HotSet
