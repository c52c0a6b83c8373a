-- Records put in, written over, taken out or kept.
pub mod SpliceLaws
pub mod EditLaws
pub mod LookupLaws
pub mod KeepLaws
pub mod StepLaws
pub mod RunLaws
