pub mod Fates
pub mod Lines
pub mod Texts
pub mod Laws
pub mod Rows
