pub mod Drawn
pub mod DrawnLines
pub mod DrawingsAreOwed
pub mod TitledHeaders
