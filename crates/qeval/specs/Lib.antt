pub mod Value
pub mod Eval
pub mod Node
pub mod Bounds
