pub mod Calls
pub mod Traces
pub mod Promises
