pub mod Levels
pub mod Answers
pub mod Session
pub mod Shown
pub mod Asked
pub mod Output
