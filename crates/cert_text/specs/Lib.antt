pub mod TermLines
pub mod StepLines
pub mod CertText
pub mod Waiting
