pub mod Fitting
pub mod Attaching
pub mod Placing
pub mod Steps
pub mod Snapshots
