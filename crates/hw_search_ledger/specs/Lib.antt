pub mod Dropped
pub mod Handing
pub mod Ledgers
pub mod Naming
pub mod GoingBack
