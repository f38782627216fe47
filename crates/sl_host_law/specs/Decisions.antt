pub mod CommandDecisions
pub mod DecisionLaws
