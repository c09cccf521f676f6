pub mod Knowing
pub mod Least
pub mod Slots
pub mod Walking
