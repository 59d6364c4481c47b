pub mod Alike
pub mod Runs
pub mod Extremes
pub mod Routes
pub mod WhyClosed
pub mod Statuses
pub mod Told
