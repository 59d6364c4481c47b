pub mod Normal
pub mod Faults
pub mod Cuts
pub mod Steps
pub mod Said
pub mod Active
