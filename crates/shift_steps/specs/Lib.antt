pub mod Items
pub mod Defining
pub mod Replacing
