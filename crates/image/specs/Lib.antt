pub mod Numbers
pub mod Tree
pub mod Image
