pub mod Breaches
pub mod Differences
pub mod Fleets
pub mod OneHole
pub mod Outcomes
pub mod Listing
pub mod Sources
