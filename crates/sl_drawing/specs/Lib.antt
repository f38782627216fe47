pub mod Classes
pub mod Elements
pub mod Sums
pub mod WellFormed
