pub mod Kept
pub mod One
pub mod Given
