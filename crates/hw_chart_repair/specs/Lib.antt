pub mod Heads
pub mod Times
pub mod Marks
pub mod Sheets
pub mod Legends
pub mod Laws
