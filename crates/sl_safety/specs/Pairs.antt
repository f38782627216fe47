pub mod PairLogs
pub mod PairLaws
pub mod Reads
pub mod PairsAreShown
