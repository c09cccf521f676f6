pub mod Built
pub mod Laws
pub mod Attached
pub mod Running
pub mod Hosting
pub mod Printing
