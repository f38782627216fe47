pub mod EventsAskFew
pub mod FollowedSchedules
pub mod ReportLaws
