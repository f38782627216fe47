pub mod Stops
pub mod KillFacts
pub mod RecoveryLaws
