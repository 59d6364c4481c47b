pub mod Splits
pub mod Digits
pub mod Spelled
pub mod Joins
pub mod Signs
