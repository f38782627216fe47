pub mod RunEndings
pub mod PlayIsOwed
pub mod Plays
pub mod ToldSteps
pub mod Replays
pub mod Headers
