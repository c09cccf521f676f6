pub mod Emitted
pub mod Patching
pub mod Standing
pub mod Choosing
