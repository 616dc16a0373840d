pub mod Keeping
pub mod Narrowed
pub mod Missing
