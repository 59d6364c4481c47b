pub mod Renewing
pub mod Renews
pub mod Reported
pub mod Rewriting
pub mod Laws
