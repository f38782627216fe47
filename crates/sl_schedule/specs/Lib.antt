pub mod CountTexts
pub mod Lines
pub mod Reads
pub mod EventReads
pub mod HeaderReads
pub mod HeadersSoFar
