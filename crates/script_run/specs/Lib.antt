pub mod Records
pub mod Steps
pub mod Went
pub mod Run
