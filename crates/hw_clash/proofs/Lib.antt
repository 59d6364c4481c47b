pub mod Lists
pub mod Kept
pub mod Parts
pub mod Wishes
pub mod Irreducible
mod Worked
pub mod Lines
pub mod Said
pub mod Reducing
pub mod Written
pub mod Spelled
