pub mod Items
pub mod Sound
pub mod Accounts
