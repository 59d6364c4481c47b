pub mod Operators
pub mod Lists
