mod Numbers
pub mod Starting
pub mod Handed
pub mod Extended
