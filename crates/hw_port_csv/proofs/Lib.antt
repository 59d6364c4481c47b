pub mod Plain
pub mod Bounds
pub mod Texts
pub mod ReadBack
pub mod Order
pub mod Told
