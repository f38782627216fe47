pub mod Answers
pub mod RepliesAreTaken
pub mod Moves
