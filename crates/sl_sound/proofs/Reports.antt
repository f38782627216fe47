pub mod UnseenCalls
pub mod TurnsLeaveFewer
pub mod EffectsWereDue
pub mod EventsAskFew
pub mod RunsFollowSchedules
pub mod ReportsAreRuns
pub mod ScheduleFronts
pub mod OneReport
