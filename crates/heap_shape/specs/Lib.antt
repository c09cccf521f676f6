pub mod Visiting
pub mod Listing
pub mod Roots
pub mod Sameness
pub mod Order
pub mod Shown
