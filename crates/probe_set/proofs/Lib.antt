pub mod Alike
pub mod Counting
pub mod Tables
pub mod Walking
pub mod Deep
pub mod Lists
pub mod Levels
