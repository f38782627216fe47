pub mod Instances
pub mod Nexts
pub mod WayFactsHeld
pub mod WayLaws
