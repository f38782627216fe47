pub mod FreshAreas
pub mod Disks
pub mod Writes
pub mod Lines
pub mod Upgrades
pub mod Actions
pub mod HalfDone
pub mod Laws
