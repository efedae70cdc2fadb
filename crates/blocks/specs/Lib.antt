pub mod Blocks
pub mod Growth
pub mod Shape
pub mod Asks
