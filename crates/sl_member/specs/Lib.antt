pub mod AskedRequests
pub mod Laws
pub mod Leases
pub mod Members
pub mod SeenSessions
pub mod HostMembers
