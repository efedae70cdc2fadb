pub mod Tests
pub mod Ways
pub mod Ready
pub mod Starts
pub mod Numbers
