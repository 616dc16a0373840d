pub mod Valuations
pub mod Steps
pub mod Tightest
pub mod Within
