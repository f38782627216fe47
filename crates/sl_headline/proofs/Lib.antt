pub mod RunsArePromised
pub mod Quiet
pub mod Volumes
