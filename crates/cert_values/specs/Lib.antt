pub mod Laws
pub mod Choices
pub mod Ranges
pub mod FewNames
