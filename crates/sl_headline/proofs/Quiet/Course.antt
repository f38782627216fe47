pub mod Blocks
pub mod QuietDecisions
pub mod KnownOfLease
pub mod GivenArea
