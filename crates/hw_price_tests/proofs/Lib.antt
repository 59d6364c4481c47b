pub mod Steps
pub mod Judged
pub mod Charged
pub mod Stays
pub mod Hours
pub mod Ends
pub mod Alone
