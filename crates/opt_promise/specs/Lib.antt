pub mod Promise
pub mod Legs
