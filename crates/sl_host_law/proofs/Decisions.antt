pub mod PlainSums
pub mod QuestionsByKept
pub mod CommandsAreDecided
pub mod FallingIsEnough
