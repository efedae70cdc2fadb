pub mod Items
pub mod Moves
pub mod Blocks
pub mod Changes
