-- The laws of this crate, over those of the crates below.
use Rattle.sl_id_safety.proofs.State.SessionFacts.{ids_are_bounded}
use Rattle.sl_id_safety.proofs.Steps.EventsAreSteps.{between_is_bounded, endings_go_on, entries_go_on, landings_go_on, quiet_changes_go_on}
use Rattle.sl_id_safety.proofs.Steps.QuietEvents.{own_steps_go_on}
use Rattle.sl_id_safety.proofs.Steps.Samplings.{samplings_go_on}
use Rattle.sl_id_safety.proofs.Reached.EventsGoOn.{EventsGoOn, ids_are_reached_given, ids_go_on_given}
use Rattle.sl_id_safety.specs.Reached.IdsAreReached.{IdsAreReached, IdsGoOn}

events_go_on : EventsGoOn
events_go_on =
    record {
      bounded = ids_are_bounded;
      between = between_is_bounded;
      landings = landings_go_on;
      samplings = samplings_go_on;
      endings = endings_go_on;
      quiet = quiet_changes_go_on;
      own = own_steps_go_on;
      entries = entries_go_on;
    }

pub ids_are_reached : IdsAreReached
ids_are_reached = ids_are_reached_given events_go_on

pub ids_go_on : IdsGoOn
ids_go_on = ids_go_on_given events_go_on
