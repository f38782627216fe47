pub mod CallsGrow
pub mod EffectsAreTold
pub mod MovesLeaveCalls
pub mod RepliesLeaveCalls
pub mod JoinedCallsKeepOrder
