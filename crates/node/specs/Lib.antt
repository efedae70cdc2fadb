pub mod Nodes
pub mod Masks
pub mod Matches
