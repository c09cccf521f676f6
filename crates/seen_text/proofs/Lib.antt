pub mod PartsText
pub mod Showing
pub mod Unlisted
pub mod Joined
