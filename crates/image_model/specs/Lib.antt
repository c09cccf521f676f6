pub mod Ready
pub mod Staying
pub mod Modelled
pub mod Laws
