pub mod Closings
pub mod Statuses
pub mod Runs
pub mod Lines
pub mod Windows
pub mod Laws
pub mod Rows
