pub mod CallFronts
pub mod Ways
pub mod ModesRest
pub mod LeaseLaws
