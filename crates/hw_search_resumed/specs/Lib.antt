pub mod Going
pub mod Searched
pub mod Parts
pub mod Confining
