pub mod SharedFacts
pub mod Calls
pub mod Replies
pub mod Decisions
pub mod Questions
pub mod StepParts
pub mod Answers
pub mod Steps
