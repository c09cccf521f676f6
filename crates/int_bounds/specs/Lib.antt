pub mod Within
pub mod Values
pub mod Narrows
pub mod Near
pub mod Overflowing
