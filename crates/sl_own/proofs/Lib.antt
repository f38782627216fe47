pub mod OwnLaws
pub mod SettleLaws
pub mod PlayLaws
pub mod LendLaws
pub mod PlaceLaws
pub mod GroundLaws
pub mod WatchLaws
pub mod TextLaws
