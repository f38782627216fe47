pub mod BeforeInput
pub mod FinishKeeps
pub mod AnswersLeadOn
pub mod LinesBegin
