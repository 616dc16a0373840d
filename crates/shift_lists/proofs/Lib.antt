pub mod Freshness
pub mod Adding
pub mod Carrying
pub mod ShiftSteps
pub mod InTurn
