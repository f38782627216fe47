pub mod RunningDaemons
pub mod AllowedEvents
pub mod GivenSteps
pub mod ToldEvents
pub mod ConflictCounts
pub mod ConflictsLeft
