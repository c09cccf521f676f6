pub mod Lines
pub mod Words
pub mod Reading
pub mod Numbers
pub mod Names
pub mod Written
pub mod Cut
pub mod Laws
