pub mod Hex
pub mod Texts
pub mod Printing
pub mod Undone
pub mod Parted
