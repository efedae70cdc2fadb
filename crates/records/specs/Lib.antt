pub mod Records
pub mod Runs
pub mod Operations
