pub mod Levels
pub mod Ending
pub mod Totals
pub mod Telling
pub mod Recording
pub mod Whole
pub mod Named
