pub mod Coded
pub mod Following
pub mod Valued
pub mod Literals
pub mod Places
pub mod Naming
pub mod Reading
