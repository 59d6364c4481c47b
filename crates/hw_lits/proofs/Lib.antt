pub mod Ranks
pub mod Forms
pub mod Ascending
pub mod Denials
pub mod Steps
pub mod Told
pub mod SaidRooms
