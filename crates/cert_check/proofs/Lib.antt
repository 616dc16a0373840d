pub mod Sound
pub mod Same
pub mod Running
pub mod Giving
pub mod Splitting
pub mod Heading
mod Parting
