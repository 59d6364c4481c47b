pub mod Inputs
mod Printed
mod Irreducible
mod Sent
mod PortMeans
mod Worded
mod Sources
mod Found
pub mod Checked
pub mod Decided
