pub mod Measures
pub mod Probe
pub mod Ranges
