pub mod Lines
pub mod Encodings
pub mod Tables
pub mod Instances
pub mod Clocks
pub mod Ships
pub mod Ports
