pub mod Bounds
pub mod Steps
pub mod Side
pub mod Changes
pub mod LeaseQuestions
pub mod Laws
pub mod Reads
