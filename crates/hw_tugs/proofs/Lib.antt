pub mod Loads
pub mod Overs
pub mod Sources
