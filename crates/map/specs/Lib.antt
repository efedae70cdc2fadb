pub mod Answers
pub mod Memory
pub mod Fresh
pub mod Lookups
pub mod Walks
pub mod Inserts
pub mod Removals
