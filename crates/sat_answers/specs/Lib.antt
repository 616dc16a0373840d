pub mod Coded
pub mod Answers
