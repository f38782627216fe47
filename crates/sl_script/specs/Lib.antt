pub mod MadeSteps
pub mod Drafts
pub mod ScriptStates
