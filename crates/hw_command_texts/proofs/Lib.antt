mod Carried
pub mod Decided
pub mod OfPort
mod Tabled
pub mod Told
mod Linting
mod Explained
pub mod RepairDecided
