pub mod Shifts
pub mod Steps
pub mod Lifting
pub mod Law
