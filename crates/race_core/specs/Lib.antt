pub mod Machine
pub mod Lawful
pub mod Chains
pub mod Settled
