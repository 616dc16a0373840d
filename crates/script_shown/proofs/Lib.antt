pub mod CertStays
pub mod AnswersStay
