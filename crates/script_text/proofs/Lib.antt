pub mod Reaching
pub mod Levels
pub mod AskedRows
