pub mod DerivedComparisons
pub mod TraceFacts
pub mod EvidenceFacts
pub mod NumberFacts
pub mod PlainReads
pub mod PlainWork
