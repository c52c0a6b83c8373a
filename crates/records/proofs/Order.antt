-- Records in order: searches, places and ranges.
pub mod OrderLaws
pub mod SearchLaws
pub mod PlaceLaws
pub mod RangeLaws
pub mod AscendingLaws
pub mod FindLaws
