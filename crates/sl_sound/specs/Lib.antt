pub mod MadeRuns
pub mod SoundLaws
pub mod Reports
