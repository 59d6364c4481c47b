pub mod Passages
pub mod LastPasses
pub mod Laws
