pub mod Places
pub mod Storing
pub mod Searched
pub mod Replayed
pub mod Following
pub mod Ascending
pub mod Marking
