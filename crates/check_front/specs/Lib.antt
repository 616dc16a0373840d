pub mod Cut
pub mod Named
pub mod Texts
pub mod Judged
pub mod Lines
pub mod Check
