pub mod Leading
pub mod Emitting
pub mod Laws
pub mod Chosen
