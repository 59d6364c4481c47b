pub mod Named
pub mod FirstFault
