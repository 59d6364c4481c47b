pub mod Heeding
pub mod Bounding
pub mod Closing
pub mod Proposing
pub mod Stepping
