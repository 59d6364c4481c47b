pub mod Onward
pub mod Shortened
pub mod Digits
pub mod Words
pub mod Paths
pub mod ReadBack
pub mod Nested
