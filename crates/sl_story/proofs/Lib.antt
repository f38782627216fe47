pub mod HeaderBefore
pub mod LineLaws
pub mod Openings
pub mod SpareLines
pub mod StoriesBegin
pub mod StoryPlays
pub mod StoryTold
