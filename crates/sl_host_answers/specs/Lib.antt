pub mod Facts
pub mod Requests
pub mod Looks
pub mod Leases
pub mod Surveys
pub mod JoiningAnswers
pub mod WholeAnswers
