pub mod Serving
pub mod Peeling
pub mod Making
pub mod Going
pub mod Laws
