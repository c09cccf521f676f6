pub mod After
pub mod Lawful
pub mod StartLine
