pub mod Learning
pub mod Refuted
pub mod Setting
pub mod Naming
