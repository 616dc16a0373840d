pub mod Ready
pub mod Chain
pub mod Levels
pub mod Nesting
