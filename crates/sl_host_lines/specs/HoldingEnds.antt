-- What follows the end of a holding, by its member: it is looked for, and then done.
use Rattle.sl_host_law.specs.Answers.LeaseDecisions.{carrying_lease}
use Rattle.sl_host_law.specs.Decisions.CommandDecisions.{held_on}
use Rattle.sl_host_law.specs.Steps.Leases.{converting_next, releasing_next}
use Rattle.sl_host_state.specs.KeptState.{HostState, MemberState}
use Rattle.sl_host_state.specs.MadeEffects.{with_end, with_reply}
use Rattle.sl_trace.specs.declared.lease.LeaseNext.{LeaseNext}
use Rattle.sl_trace.specs.declared.session.Session.{Session}
use Rattle.sl_trace.specs.Traces.{end_of, spot_of_grant}
use Rattle.sl_trace.specs.declared.effects.Grant.{Grant}
use Rattle.sl_trace.specs.declared.effects.Mode.{Mode}
use Rattle.sl_trace.specs.declared.effects.Spot.{Spot}
use Rattle.sl_trace.specs.declared.effects.Work.TheVariants.{ForJob}
use Rattle.sl_trace.specs.declared.reply.Reply.TheVariants.{Done}
use Rattle.sl_words.specs.Words.{is_empty}
use Rattle.std.specs.Prelude.{List, None, Option, Some, [], cond, ℕ, ◌∷◌}

-- A member whose holding has ended: the job is answered where others are left under the lease, else the lease goes on.
abbrev pub gone_on : ℕ → Grant → MemberState → HostState → HostState
gone_on job g m h =
    elim (held_on h m (spot_of_grant g)) [
      | e ∷ es ↦ with_reply job Done h
      | [] ↦ carrying_lease m (spot_of_grant g) (ForJob job) (releasing_next h m (spot_of_grant g) g) h
    ]

-- The member's holding ends.
abbrev pub giving : ℕ → Grant → MemberState → HostState → HostState
giving job g m h = gone_on job g m (with_end (end_of g) h)

-- What the lease does next, unless others are left under it.
abbrev pub freed_next : HostState → Grant → MemberState → Option LeaseNext
freed_next h g m = cond (is_empty (held_on h m (spot_of_grant g))) (Some (releasing_next h m (spot_of_grant g) g)) None

-- The same with the member's session.
abbrev pub freed_of : HostState → Grant → Option MemberState → Option (Session × Option LeaseNext)
freed_of h g None = None
freed_of h g (Some m) = Some (m.who, freed_next h g m)

-- A conversion goes on at the member.
abbrev pub turning : ℕ → Spot → Mode → List ℕ → MemberState → HostState → HostState
turning job at mode name m h = carrying_lease m at (ForJob job) (converting_next h m at mode name) h

-- What it does next, with the member's session.
abbrev pub turning_of : HostState → Spot → Mode → List ℕ → Option MemberState → Option (Session × LeaseNext)
turning_of h at mode name None = None
turning_of h at mode name (Some m) = Some (m.who, converting_next h m at mode name)
