pub mod QuietDecisions
pub mod CourseOfCalls
