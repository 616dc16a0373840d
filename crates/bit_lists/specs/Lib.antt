pub mod Splits
pub mod Row
pub mod Lifting
pub mod Steps
pub mod Bits
pub mod Law
