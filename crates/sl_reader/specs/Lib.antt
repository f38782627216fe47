pub mod HeaderBegins
pub mod LineReads
pub mod GivenAnswers
pub mod LiveLines
pub mod Scopes
pub mod Origins
pub mod ScriptReading
