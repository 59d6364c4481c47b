pub mod Marks
pub mod Shapes
pub mod Heads
pub mod Legends
pub mod Pictures
pub mod Laws
