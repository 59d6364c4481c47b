pub mod Adding
pub mod Props
pub mod Choosing
