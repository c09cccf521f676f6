pub mod Pieces
pub mod Image
pub mod Planning
pub mod Laid
pub mod Bridged
pub mod Attached
pub mod Bridging
