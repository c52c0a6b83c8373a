-- Calls by their questions and lent words.
pub mod CallLaws
pub mod RoomLaws
pub mod ImageCallLaws
pub mod PeerCallLaws
pub mod HotCallLaws
