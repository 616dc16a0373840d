pub mod Strategies
pub mod Runs
pub mod Forms
pub mod Nodes
pub mod Drawn
