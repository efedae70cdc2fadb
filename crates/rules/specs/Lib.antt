pub mod Sums
pub mod Rules
pub mod Answers
pub mod Nodes
pub mod Account
pub mod Ledger
