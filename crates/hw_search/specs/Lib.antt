pub mod Engines
pub mod Prices
pub mod Askings
pub mod Turning
pub mod Going
pub mod Faults
pub mod Pricing
