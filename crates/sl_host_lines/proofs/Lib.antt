mod EndsStand
mod HeardKnown
mod LeavesStand
mod SeatsStand
pub mod TakenFronts
pub mod HoldingsAreFound
pub mod LeasesAreCounted
pub mod ListsAreTold
pub mod DecisionsAre
pub mod CommandsDecided
pub mod ValueSeqs
