pub mod Lists
pub mod Keeps
pub mod Lawful
pub mod Chains
