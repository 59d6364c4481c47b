pub mod Dates
pub mod Moments
pub mod Texts
pub mod Laws
pub mod Rows
