pub mod Acts
pub mod KeptByEffects
pub mod TraceSoFar
pub mod DueDaemons
