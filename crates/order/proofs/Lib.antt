pub mod Tables
pub mod Keys
pub mod Sides
pub mod WholeKeys
pub mod HowMany
pub mod Order
pub mod Below
