pub mod CausedSoFar
pub mod CauseFacts
pub mod Makings
pub mod CauseLaws
pub mod LineCauses
