pub mod Masking
pub mod Covering
pub mod Ordering
