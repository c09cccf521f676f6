pub mod HexLines
pub mod PutBack
pub mod AllUndone
pub mod PartedText
