pub mod Depths
pub mod Law
