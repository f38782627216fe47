pub mod PromisedRuns
pub mod Quiet
pub mod Volumes
