pub mod HistoryLaws
pub mod ListFronts
pub mod CopyLaws
pub mod LeadLaws
pub mod RestLaws
pub mod SeatLaws
pub mod Counts
