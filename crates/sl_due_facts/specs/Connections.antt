pub mod DeltaCalls
pub mod DeltaLaws
pub mod MovedSoFar
pub mod ConnectionLaws
pub mod WatchFacts
pub mod DeltasSoFar
