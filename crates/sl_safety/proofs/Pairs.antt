mod SentBlocks
mod Orders
mod OwnLandings
mod LogEvents
mod Writes
pub mod Places
mod PairLandings
mod Sectors
mod Looks
mod TurnLaws
mod LastTurn
mod TurnsRest
mod TurnGoesUp
pub mod PairsAreLogs
mod SpelledBlocks
pub mod PairsAreGiven
pub mod GivenByAnswers
pub mod PairsStand
pub mod TraceAgrees
