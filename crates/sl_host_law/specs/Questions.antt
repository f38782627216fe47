pub mod Members
pub mod Jobs
pub mod Answers
pub mod PartQuestions
