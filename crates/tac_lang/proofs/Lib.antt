pub mod MayRun
pub mod Later
pub mod Chaining
pub mod Resting
pub mod Nested
pub mod Waiting
pub mod Falling
