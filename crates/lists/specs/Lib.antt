pub mod Has
pub mod Reach
pub mod Binds
pub mod Refused
pub mod Laws
