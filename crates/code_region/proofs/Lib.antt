pub mod Filled
pub mod LinkSteps
pub mod Patched
pub mod Runs
