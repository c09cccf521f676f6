pub mod Values
pub mod Calls
pub mod Cells
pub mod States
pub mod Counted
pub mod Lines
pub mod Shown
