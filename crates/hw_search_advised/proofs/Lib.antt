pub mod Heedings
pub mod AdvisedTurns
pub mod ToldBounds
pub mod Nearing
pub mod Provers
pub mod Closings
pub mod Proposals
pub mod Stepped
