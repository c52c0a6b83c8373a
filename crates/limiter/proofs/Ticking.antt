-- Laws of the whole tick: its passes one after the other leave what the definitions say.
pub mod FinishLaws
pub mod AskLaws
pub mod HoldsLaws
pub mod PeerLaws
