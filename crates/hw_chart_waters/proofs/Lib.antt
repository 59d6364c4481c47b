pub mod Onward
pub mod Widths
pub mod Ends
pub mod Found
pub mod Apart
