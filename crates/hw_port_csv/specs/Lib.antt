pub mod Fields
pub mod Passes
pub mod Sailings
pub mod Entries
pub mod Tables
pub mod Laws
pub mod Rows
