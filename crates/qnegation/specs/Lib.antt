pub mod Answer
pub mod Junction
pub mod Negation
pub mod Opposite
