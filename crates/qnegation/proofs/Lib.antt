pub mod Junctions
pub mod Pairs
pub mod Negated
pub mod Opposites
