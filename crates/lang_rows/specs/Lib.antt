pub mod Joined
pub mod Rows
pub mod Ends
pub mod Beside
pub mod BesideEnds
pub mod Drawn
