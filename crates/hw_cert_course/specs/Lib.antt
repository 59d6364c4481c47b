pub mod Going
pub mod Courses
pub mod Raising
