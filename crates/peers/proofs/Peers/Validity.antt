-- Questions 1 and 2 of the tables, asked word by word.
pub mod RoomLaws
pub mod ScanLaws
pub mod ScanRunLaws
pub mod StartLaws
pub mod ValidLaws
