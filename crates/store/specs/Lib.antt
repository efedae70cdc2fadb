pub mod Words
pub mod Moves
