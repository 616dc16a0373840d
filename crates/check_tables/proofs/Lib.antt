pub mod Shallow
pub mod Working
