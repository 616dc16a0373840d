pub mod Formed
pub mod Refuting
pub mod Building
