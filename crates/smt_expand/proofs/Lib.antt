pub mod Heads
pub mod Joining
pub mod Listing
pub mod Pairing
