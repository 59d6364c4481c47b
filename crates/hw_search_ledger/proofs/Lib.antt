pub mod Handed
pub mod Giving
pub mod Named
pub mod Dropping
pub mod Tidying
