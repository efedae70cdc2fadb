pub mod Operations
pub mod Good
pub mod Replies
pub mod Playing
pub mod Outputs
pub mod Batches
