pub mod Calendars
pub mod Rows
