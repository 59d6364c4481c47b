pub mod Columns
pub mod Stands
pub mod Labels
pub mod Laws
pub mod Rows
