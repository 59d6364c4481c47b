pub mod Steps
pub mod Parallel
pub mod Windows
pub mod Means
pub mod Numbers
pub mod Told
