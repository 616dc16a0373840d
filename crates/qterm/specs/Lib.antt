pub mod Name
pub mod Number
pub mod Tree
pub mod Store
pub mod Kids
pub mod Place
pub mod Code
