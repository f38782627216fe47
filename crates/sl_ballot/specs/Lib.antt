pub mod Limits
pub mod Reads
pub mod Stops
pub mod Phases
pub mod Laws
