pub mod States
pub mod Places
pub mod Follows
pub mod Marks
pub mod Hints
