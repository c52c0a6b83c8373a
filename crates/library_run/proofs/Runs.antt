-- A run through the library stands for a state of the definitions, from the two `new` on, through every call, save and load.
pub mod Shows
pub mod Began
pub mod ResumedSame
pub mod ServedLaws
pub mod AskedAgain
pub mod CanRun
