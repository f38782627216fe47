pub mod SampledReads
pub mod SentCalls
pub mod Histories
pub mod HistoryLaws
pub mod Orders
pub mod Reads
