pub mod LineLaws
pub mod WordLaws
pub mod Written
pub mod Digits
pub mod Integers
pub mod Pieces
pub mod CutLaws
