pub mod Ranges
pub mod Missing
