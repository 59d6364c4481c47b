pub mod Asked
pub mod Charging
pub mod InForce
pub mod PriceStates
pub mod Weighing
