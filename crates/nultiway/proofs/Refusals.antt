-- A call that answers a number other than 0 has changed no lent word.
pub mod RefusalLaws
pub mod OtherRefusals
pub mod HotRefusals
pub mod DemandRefusals
