pub mod Enclosing
pub mod Ranging
pub mod Tabling
pub mod Choosing
pub mod Ends
pub mod Gathering
pub mod Masks
pub mod Rowing
