pub mod AddedEffects
pub mod Jobs
pub mod Sessions
pub mod Connections
pub mod Acts
