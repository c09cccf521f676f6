pub mod Entries
pub mod Answering
pub mod Showing
pub mod Hosting
pub mod Laws
