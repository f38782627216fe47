pub mod Writes
pub mod CarriedFacts
pub mod LoneCalls
pub mod Busy
pub mod TraceLaws
pub mod JobLore
