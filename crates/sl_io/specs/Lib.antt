pub mod FaultCauses
pub mod FaultCounts
pub mod Planned
pub mod TakenBytes
pub mod MemStreams
pub mod Adapters
