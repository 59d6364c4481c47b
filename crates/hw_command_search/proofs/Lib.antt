mod Letters
pub mod Meeting
mod Ending
mod Owned
mod Finishing
mod Demonstrated
mod Continued
pub mod Resumptions
