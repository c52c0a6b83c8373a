-- Each call of the library: its own questions, and the call of `run` that it is where they are passed.
pub mod TypedLaws
pub mod OwnQuestions
pub mod Refined
pub mod FrontLaws
pub mod Stepped
pub mod CanCall
