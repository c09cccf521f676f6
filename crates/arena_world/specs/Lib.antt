pub mod Prebuilt
pub mod View
pub mod Fitting
pub mod Answering
pub mod Laws
