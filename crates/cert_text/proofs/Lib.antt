pub mod Known
pub mod Places
pub mod Stack
pub mod Growing
pub mod Written
