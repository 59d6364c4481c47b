pub mod Trees
pub mod Laws
pub mod Alike
pub mod Bands
pub mod Lanes
pub mod Sheet
pub mod Thirds
pub mod Without
