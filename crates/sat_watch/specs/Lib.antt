pub mod Ticks
pub mod Watching
pub mod Deciding
