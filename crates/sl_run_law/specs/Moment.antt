pub mod MomentsFollowSteps
pub mod Waits
pub mod Orders
pub mod FrontMoments
