pub mod Moves
pub mod Values
pub mod Fleets
pub mod Marks
pub mod Legends
pub mod Rows
pub mod Pictures
pub mod Rests
