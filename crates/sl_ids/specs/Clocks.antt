pub mod Points
pub mod Readings
pub mod Watchdog
pub mod Waits
pub mod Guarded
