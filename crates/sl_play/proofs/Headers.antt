pub mod ListFacts
pub mod WellFormedLines
pub mod TakenLines
pub mod LineKinds
pub mod HeadersOfLines
pub mod HeadersAreGood
pub mod ExampleHeaders
pub mod CommandsAreRead
