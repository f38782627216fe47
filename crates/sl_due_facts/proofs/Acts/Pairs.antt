pub mod Decisions
pub mod Records
pub mod DecodedRecords
pub mod GivenByReads
pub mod TornPairs
