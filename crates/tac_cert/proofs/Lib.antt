mod Fitting
pub mod Staying
pub mod Sorting
