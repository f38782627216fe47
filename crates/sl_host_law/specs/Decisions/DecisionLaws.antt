-- A command comes to the same by what a host keeps.
use Rattle.sl_host_law.specs.Decisions.CommandDecisions.{decision_of, held_on, member_named, value_seq}
use Rattle.sl_due.specs.DueCommands.{decided}
use Rattle.sl_due.specs.Steps.{Step, seen}
use Rattle.sl_host_state.specs.KeptState.{HostState, MemberState}
use Rattle.sl_host_state.specs.MadeEffects.{is_lease_on}
use Rattle.sl_host_state.specs.HostStands.{Stands}
use Rattle.sl_trace.specs.Counts.{next_value_seq, values_on}
use Rattle.sl_sector.specs.declared.sector.ValueRec.{ValueRec}
use Rattle.sl_trace.specs.Sessions.{calls_of}
use Rattle.sl_trace.specs.Traces.{is_shared}
use Rattle.sl_trace.specs.declared.command.Command.TheVariants.{SetLvb}
use Rattle.sl_trace.specs.declared.command.Command.{Command}
use Rattle.sl_trace.specs.declared.command.ResourceArg.{ResourceArg}
use Rattle.sl_trace.specs.declared.effects.Grant.{Grant}
use Rattle.sl_trace.specs.Leases.{spot_of}
use Rattle.sl_trace.specs.declared.input.Input.{Input}
use Rattle.std.specs.Prelude.{Contains, IsSome, List, Some, false, find, [], ℕ, ◌∷◌, ◌≡◌, ◌≤◌}

-- For a value that is set the last one of its area tells the seq: versions of values rise, so an older one is never of the version held.
-- What else is decided asks nothing like it.
abbrev pub LastIsEnough : HostState → Step → Command → Type 0
LastIsEnough h x (SetLvb r p bytes) =
    (m : MemberState) (g : Grant) → member_named h r.lockspace ≡ Some m → Contains (held_on h m (spot_of r)) g → is_shared g.mode ≡ false
    → next_value_seq x.setting (seen x) m.who (spot_of r) g.lver ≡ value_seq m (spot_of r) g.lver
LastIsEnough h x c = Unit {0}

abbrev pub CommandsAreDecided : Type 0
CommandsAreDecided =
    (i : Input) (h : HostState) (x : Step) (c : Command) → Stands i h x → LastIsEnough h x c → decided x.setting (seen x) x.reading c ≡ decision_of h c

-- Versions that are at most this one, and don't rise from the newest on.
abbrev pub AreFalling : ℕ → List ValueRec → Type 0
AreFalling top [] = Unit {0}
AreFalling top (v ∷ vs) = (v.lver ≤ top) × AreFalling v.lver vs

-- Where a holder that sets a value has a lease, and the versions of its values fall from its own on.
pub record ValuesFall (h : HostState) (x : Step) (r : ResourceArg) : Type 0 where
  pub leased : (m : MemberState) → member_named h r.lockspace ≡ Some m → IsSome (find (is_lease_on (spot_of r)) m.leases)
  pub falling : (m : MemberState) (g : Grant) → member_named h r.lockspace ≡ Some m → Contains (held_on h m (spot_of r)) g → is_shared g.mode ≡ false
      → AreFalling g.lver (values_on x.setting.layout (spot_of r) (calls_of (seen x) m.who))

-- There the last one is enough.
abbrev pub FallingIsEnough : Type 0
FallingIsEnough =
    (i : Input) (h : HostState) (x : Step) (r : ResourceArg) (p : ℕ) (bytes : List ℕ) → Stands i h x → ValuesFall h x r → LastIsEnough h x (SetLvb r p bytes)
