pub mod HeldAfterEvent
pub mod GrantsUncounted
pub mod Soundness
pub mod OwedGrows
pub mod Reports
