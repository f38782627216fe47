pub mod PassesLessen
pub mod PassPremises
pub mod NextMoment
pub mod SessionFinish
