pub mod JoinedStand
pub mod Interface
pub mod State
pub mod Steps
pub mod Reached
