pub mod Places
pub mod Form
pub mod Table
pub mod Names
pub mod Walk
pub mod Parts
pub mod Instance
