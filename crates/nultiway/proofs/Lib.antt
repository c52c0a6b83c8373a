-- The laws. For callers: a value is read back from its words (`ValueLaws`, `GcraWordLaws`, `HotWordLaws`, `DemandWordLaws`), and a call that is refused
-- changes no lent word (`RefusalLaws`, `OtherRefusals`, `HotRefusals`, `DemandRefusals`). The others are for the proofs of the functions.
pub mod Words
pub mod Calls
pub mod Refusals
