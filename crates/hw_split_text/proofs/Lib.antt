pub mod Rooms
pub mod Fitting
pub mod Lines
pub mod Covering
pub mod Written
pub mod Spelled
