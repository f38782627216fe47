pub mod ClockLaws
pub mod WatchdogLaws
pub mod GuardingLaws
