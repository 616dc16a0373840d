pub mod Normals
pub mod Shifting
