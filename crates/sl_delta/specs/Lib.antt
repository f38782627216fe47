pub mod OwnSector
pub mod DeltaDecisions
pub mod Laws
