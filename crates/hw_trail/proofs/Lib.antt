pub mod Few
pub mod Finds
pub mod Returns
pub mod Made
pub mod Shapes
