-- What stands while a value is read, and what is told of values.
pub mod ReadsBack
pub mod ReadsByInputs
pub mod ReadsByLeases
pub mod ReadsByLines
pub mod ValueFactsAreKept
pub mod DecisionsTellNothing
pub mod NothingIsTold
pub mod ValuesAreTold
