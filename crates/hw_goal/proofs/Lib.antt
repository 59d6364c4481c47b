pub mod Greatest
pub mod Sums
pub mod Wider
pub mod Quieter
