pub mod Entries
pub mod PathBits
