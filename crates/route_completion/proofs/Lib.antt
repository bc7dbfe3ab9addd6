pub mod EntriesLaws
pub mod Laws
pub mod Parts
pub mod RestLaws
pub mod ScopeLaws
pub mod TakenLaws
