pub mod Tiers
pub mod Sections
pub mod Examples
