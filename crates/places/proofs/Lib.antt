pub mod Windows
pub mod Levels
pub mod Extending
pub mod Prefixes
pub mod Children
pub mod Covering
pub mod Rest
