pub mod Plan
pub mod Counted
pub mod Putting
pub mod Leaves
pub mod Accepted
pub mod Conv
pub mod Leads
pub mod Flat
