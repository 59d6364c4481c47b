pub mod Programmes
pub mod Rows
pub mod Texts
pub mod Laws
pub mod Worked
