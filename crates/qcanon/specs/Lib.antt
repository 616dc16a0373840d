pub mod Chain
pub mod List
pub mod Sums
pub mod Walk
