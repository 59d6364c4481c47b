pub mod Rows
pub mod Lines
pub mod HourRules
pub mod TextWords
pub mod TextRows
pub mod WrittenWords
pub mod TextLacks
pub mod TextBack
mod Drawing
mod DrawnFits
