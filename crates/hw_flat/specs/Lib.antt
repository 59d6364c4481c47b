pub mod Opened
pub mod Carried
pub mod TextForms
pub mod Text
pub mod TextWritten
pub mod TextLaws
pub mod Demonstration
