pub mod LeaseLawful
pub mod LeaseCalls
pub mod LeaseLaws
