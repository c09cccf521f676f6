pub mod Optimised
pub mod Loops
pub mod Attaching
pub mod Causes
