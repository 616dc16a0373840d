pub mod Ticking
pub mod Hearing
