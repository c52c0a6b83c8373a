-- Laws of tests (`Tests`), of a call's answer by its questions (`Answers`) and as a result (`RefusalLaws`), and of lists by a test (`ListLaws`, `OnlyLaws`).
pub mod Tests
pub mod Answers
pub mod ListLaws
pub mod OnlyLaws
pub mod RefusalLaws
