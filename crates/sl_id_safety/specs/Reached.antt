pub mod IdsAreReached
