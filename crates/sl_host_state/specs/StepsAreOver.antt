-- A step that is over: the host stands for the steps so far, that one too. And a lease without a call stands for none.
use Rattle.sl_area.specs.AreaSizes.{Layout}
use Rattle.sl_due.specs.Due.{IsDue}
use Rattle.sl_due.specs.Steps.{Step}
use Rattle.sl_host_state.specs.HeardInputs.{rested}
use Rattle.sl_host_state.specs.KeptState.{HostState}
use Rattle.sl_host_state.specs.MadeEffects.{new_lease}
use Rattle.sl_host_state.specs.HostStands.{HostStands, LeaseStands, Stands}
use Rattle.sl_sector.specs.declared.sector.Owner.{Owner}
use Rattle.sl_trace.specs.Traces.{FollowsTrace}
use Rattle.sl_trace.specs.declared.effects.Entry.{Entry}
use Rattle.sl_trace.specs.declared.effects.Spot.{Spot}
use Rattle.sl_trace.specs.declared.input.Input.{Input}
use Rattle.std.specs.Prelude.{List, [], ℕ, ◌∷◌}

-- The entry that a step leaves.
abbrev pub entry_of : Step → Entry
entry_of x = record { reading = x.reading; input = x.input; effects = x.effects }

-- A step that did what was due, and followed the steps before it, is one of the steps so far.
abbrev pub StepsAreOver : Type 0
StepsAreOver =
    (i : Input) (h : HostState) (x : Step) → FollowsTrace x.setting x.past (entry_of x) → IsDue x.setting x.past (entry_of x) → Stands i h x
    → HostStands (rested h) x.setting (entry_of x ∷ x.past)

-- A lease's first call is its first.
abbrev pub NewLeaseStands : Type 0
NewLeaseStands = (g : Layout) (lockspace : List ℕ) (self : Owner) (at : Spot) → LeaseStands g lockspace self (new_lease at) []
