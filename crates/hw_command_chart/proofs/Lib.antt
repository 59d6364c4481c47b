mod Charted
pub mod Decided
pub mod Verified
mod ClashCharted
mod ClashDecided
