pub mod Counting
pub mod Counts
pub mod Deep
pub mod Lists
