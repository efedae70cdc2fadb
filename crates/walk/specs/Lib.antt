pub mod Steps
pub mod Lookups
pub mod Sights
pub mod Passages
pub mod Trails
