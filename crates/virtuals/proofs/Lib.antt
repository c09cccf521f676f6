pub mod Lists
pub mod Search
pub mod Sound
pub mod Made
pub mod PartLaws
pub mod Marks
pub mod NamingLemmas
