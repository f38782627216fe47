pub mod StepLaws
pub mod LineLaws
pub mod AnswerLaws
pub mod EventLaws
pub mod LiveLaws
pub mod AuditLaws
