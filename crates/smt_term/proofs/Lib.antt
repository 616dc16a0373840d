pub mod Waiting
pub mod Answered
pub mod Stepping
pub mod Begun
