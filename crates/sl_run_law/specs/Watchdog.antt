pub mod ActingTimes
pub mod WatchdogLaws
