pub mod OneJoining
pub mod MembersAnswer
pub mod JobsAnswer
pub mod AnswersDecide
pub mod AnswersAreTheirs
pub mod PartsAreTold
pub mod RefusalsAreTold
