pub mod Nodes
pub mod Adding
pub mod Removing
