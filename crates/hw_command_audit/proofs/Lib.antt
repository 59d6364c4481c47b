pub mod Fronts
pub mod Lines
pub mod Inputs
pub mod Days
pub mod Ended
pub mod Decided
