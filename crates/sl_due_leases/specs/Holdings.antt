pub mod Moments
pub mod DecisionGrounds
pub mod HoldingLaws
