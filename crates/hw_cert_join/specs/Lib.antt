pub mod Joining
pub mod Climbs
pub mod Numbering
