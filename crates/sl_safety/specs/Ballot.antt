pub mod Endings
pub mod Reasons
pub mod LeadersFollowBallots
pub mod Enders
