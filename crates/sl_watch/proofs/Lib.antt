pub mod SightingLaws
pub mod SummaryLaws
pub mod ReasonLaws
pub mod WatchLaws
pub mod ToldLaws
