pub mod Chunks
pub mod Code
pub mod Link
