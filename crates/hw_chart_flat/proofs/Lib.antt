pub mod Fits
pub mod Tested
pub mod Onward
pub mod Regrouped
pub mod Flags
pub mod TwoLines
