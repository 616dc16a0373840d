pub mod Expanded
pub mod Walk
