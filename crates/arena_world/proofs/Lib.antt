pub mod Firsts
pub mod Views
pub mod Fitted
pub mod Stores
pub mod Answers
