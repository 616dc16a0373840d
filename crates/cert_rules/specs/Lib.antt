pub mod Depths
pub mod Replacing
pub mod Named
