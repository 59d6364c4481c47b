pub mod Splits
pub mod Parting
pub mod Joining
pub mod Parts
pub mod Certs
pub mod MadeSplits
pub mod Splitting
