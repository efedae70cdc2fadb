pub mod Small
pub mod Reading
pub mod Starred
