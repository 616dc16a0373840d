pub mod Naming
pub mod Coding
mod Within
mod Setting
mod Answering
