pub mod Ways
pub mod Leases
pub mod Holdings
pub mod Grants
