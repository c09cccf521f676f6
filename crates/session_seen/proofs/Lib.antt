pub mod Telling
pub mod Moves
pub mod Lining
pub mod Ran
