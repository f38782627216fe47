pub mod BlockLaws
pub mod AgreementLaws
pub mod InstanceLaws
pub mod HoldingLaws
pub mod Pairs
pub mod PairLogs
pub mod Grantings
