pub mod Reading
pub mod Trying
pub mod Values
pub mod Refusals
pub mod Days
pub mod AuditPort
pub mod CarryPort
pub mod Laws
