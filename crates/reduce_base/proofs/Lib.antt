pub mod Forming
pub mod Pushing
pub mod Rewriting
pub mod Leading
pub mod Choosing
pub mod Tidying
