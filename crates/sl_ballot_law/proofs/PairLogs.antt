mod StepTests
pub mod RunSteps
mod Sessions
mod NewestWrites
mod StandsGoOn
mod FirstHalf
mod SecondHalf
pub mod LogsStand
pub mod RegistersAreRead
pub mod NothingLands
