pub mod Bounds
pub mod Extremes
pub mod Openings
pub mod Drawn
pub mod Runs
pub mod Reasoned
pub mod TwoLines
