pub mod MovingLemmas
pub mod Same
pub mod RestLemmas
pub mod NumberLemmas
