-- What a wake makes due, in three passes: joinings, renewals, settlings.
use Rattle.sl_host_law.specs.Answers.WakingsFollow.{joining_by_time, settling_at}
use Rattle.sl_host_law.specs.Decisions.CommandDecisions.{is_active_member}
use Rattle.sl_host_state.specs.KeptState.{HostState, MemberState}
use Rattle.sl_host_law.specs.Steps.Leases.{settling_next}
use Rattle.sl_host_law.specs.Steps.Passes.{at_member, for_members}
use Rattle.sl_host_law.specs.StepParts.Ends.{renewing_in}
use Rattle.sl_host_law.specs.StepParts.Signals.{over}
use Rattle.sl_trace.specs.declared.effects.Spot.{Spot}
use Rattle.std.specs.Prelude.{cond, map}

-- A member's lease on an area is settled.
abbrev pub settling_here : Spot → MemberState → HostState → HostState
settling_here at m h = settling_at m at (settling_next h m at) h

-- All of its leases, by place.
abbrev pub settling_all : MemberState → HostState → HostState
settling_all m h = cond (is_active_member m) (over (map (λ l. l.spot) m.leases) (λ at. at_member m.who.number (settling_here at)) h) h

-- The whole of a wake.
abbrev pub waking : HostState → HostState
waking h = for_members settling_all (for_members renewing_in (for_members joining_by_time h))
