pub mod OnlyBuilt
pub mod Ready
pub mod Opted
pub mod Printed
pub mod Imaged
pub mod Ran
pub mod Answerable
