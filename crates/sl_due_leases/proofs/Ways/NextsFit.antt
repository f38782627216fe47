pub mod SettlingsFit
pub mod AreaReadsFit
pub mod PhasesFit
pub mod WritesFit
pub mod AnswersFit
