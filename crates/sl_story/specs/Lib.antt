pub mod HeaderReadings
pub mod StoryHeaders
pub mod StoryPlays
pub mod ToldSchedules
