pub mod OwnRuns
pub mod OwnSettling
pub mod OwnTexts
pub mod OwnGrounds
pub mod OwnOwed
