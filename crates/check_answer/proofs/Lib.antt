pub mod Verdicts
pub mod Models
pub mod Accepted
pub mod Refutations
