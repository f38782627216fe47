pub mod Statuses
pub mod Runs
pub mod StatusLaws
pub mod LiveHistories
pub mod Pictures
pub mod Stories
