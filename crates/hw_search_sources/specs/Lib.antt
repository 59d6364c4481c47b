pub mod Any
pub mod MadeFor
pub mod Marks
pub mod Speaking
pub mod Branching
pub mod Powers
pub mod Restarts
