pub mod Callee
pub mod Term
pub mod Frames
pub mod Turns
pub mod Pairs
pub mod Steps
