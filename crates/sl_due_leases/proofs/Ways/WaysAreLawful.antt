pub mod BallotLaws
pub mod BallotsBegin
pub mod ClearReads
pub mod GrantsFollow
