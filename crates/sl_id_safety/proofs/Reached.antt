pub mod EventsGoOn
pub mod IdsAreReached
