pub mod Fault
pub mod Forms
pub mod Trace
