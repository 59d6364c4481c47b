pub mod Onward
pub mod Ranks
pub mod Lines
