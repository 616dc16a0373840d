pub mod Tables
pub mod Lacking
