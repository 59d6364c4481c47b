pub mod Kinds
pub mod Fleets
pub mod Held
pub mod Over
pub mod Profiles
