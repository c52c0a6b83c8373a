-- From bytes to the tables that `load` leaves: reading, question 13, storing.
pub mod LoadLaws
pub mod ReadLaws
pub mod KindLaws
pub mod ScanLaws
pub mod StoredLaws
pub mod JudgeLaws
pub mod AskLaws
pub mod RoomLaws
pub mod LoadCallLaws
