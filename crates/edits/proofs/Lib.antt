pub mod AddingLengths
pub mod WayUp
pub mod Removals
pub mod Written
