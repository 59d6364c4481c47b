pub mod Restrictions
pub mod Closed
pub mod Lines
pub mod Meaning
pub mod Laws
