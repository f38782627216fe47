pub mod DifferenceLines
pub mod LiveOwed
