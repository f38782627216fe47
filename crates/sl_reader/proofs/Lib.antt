pub mod FirstLines
pub mod HeaderSteps
pub mod PiecedLines
pub mod ScriptNext
pub mod ScriptLaws
