pub mod AnswersLeadOn
