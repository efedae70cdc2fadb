pub mod First
pub mod Fresh
