pub mod Course
pub mod Reads
pub mod Step
pub mod Leases
pub mod Area
pub mod Events
pub mod NoDenial
pub mod Start
