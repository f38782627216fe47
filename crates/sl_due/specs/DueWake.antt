-- What a wake makes due, and what comes last in each step.
use Rattle.sl_due.specs.CarriedDelta.{carry_delta, for_joining}
use Rattle.sl_due.specs.DueTimeOuts.{remove_connection}
use Rattle.sl_due.specs.CarriedLease.{settle}
use Rattle.sl_due.specs.DueRequests.{bits_due}
use Rattle.sl_due.specs.Steps.{Step, for_each, seen, when}
use Rattle.sl_trace.specs.Leases.{lease_spots, open_on}
use Rattle.sl_trace.specs.DeltaDecisions.{delta_known, delta_of_session, next_free, next_on_wake, next_renewal}
use Rattle.sl_trace.specs.Sessions.{calls_of, has_open_write, holdings_of, is_active, is_joined, open_calls_of, present_sessions, recovery_of}
use Rattle.sl_trace.specs.declared.session.Session.{Session}
use Rattle.sl_trace.specs.Traces.{is_running}
use Rattle.sl_trace.specs.declared.effects.Spot.{Spot}
use Rattle.sl_trace.specs.declared.input.Input.TheVariants.{Wake}
use Rattle.sl_trace.specs.declared.input.Input.{Input}
use Rattle.sl_words.specs.Words.{is_empty}
use Rattle.std.specs.Prelude.{Bool, false, is_some, not, true, ◌&&◌}

-- ---- on a wake

-- A joining goes on where its time has come.
unfoldable pub join_on_wake : Session → Step → Step
join_on_wake s x =
    for_joining s (λ j y.
    when (is_running (seen y) j) (carry_delta s (next_on_wake (delta_of_session y.setting s) y.reading (calls_of (seen y) s))) y) x

-- A renewal is due once `renew` has passed since the last one's submission.
unfoldable pub renew_on_wake : Session → Step → Step
renew_on_wake s x =
    when (is_joined (seen x) s) (λ y.
    carry_delta s
    (next_renewal (delta_of_session y.setting s) y.reading (delta_known y.setting (seen y) s) (bits_due y.setting (calls_of (seen y) s) y.reading)) y) x

-- Settling begins where no call on the area is unanswered.
unfoldable pub settle_on_wake : Session → Spot → Step → Step
settle_on_wake s at x = when (is_empty (open_on x.setting (seen x) at)) (settle s at) x

-- The session's leases are settled, by place.
unfoldable pub settlings : Session → Step → Step
settlings s x = when (is_active x.setting (seen x) s) (for_each (lease_spots x.setting (seen x) s) (settle_on_wake s)) x

-- A pass over all sessions, by lockspace name.
abbrev pub for_sessions : (Session → Step → Step) → Step → Step
for_sessions f x = for_each (present_sessions x.setting (seen x)) f x

-- Three passes: joinings, renewals, settlings.
unfoldable pub on_wake : Step → Step
on_wake x = for_sessions settlings (for_sessions renew_on_wake (for_sessions join_on_wake x))

-- Whether it is a wake.
abbrev pub is_wake : Input → Bool
is_wake i = elim i [ Wake ↦ true | _ ↦ false ]

-- ---- last: removals, and the free of a leaving session

-- The free record is written where nothing is held and no call is unanswered.
abbrev pub free_if_done : Session → Step → Step
free_if_done s x =
    when (is_empty (holdings_of (seen x) s) && is_empty (open_calls_of (seen x) s)) (λ y.
    carry_delta s (next_free (delta_of_session y.setting s) y.reading (delta_known y.setting (seen y) s)) y) x

-- The connection is removed once nothing is held and no write is unanswered.
abbrev pub end_if_done : Session → Step → Step
end_if_done s x = when (is_empty (holdings_of (seen x) s) && not (has_open_write (seen x) s)) (remove_connection s.lockspace) x

-- In recovery the session ends once nothing is held and no write is unanswered; a leaving writes its free once nothing is left.
unfoldable pub finish_session : Session → Step → Step
finish_session s x =
    when (is_joined (seen x) s) (λ y.
    elim (is_some (recovery_of y.setting (seen y) s)) [ true ↦ end_if_done s y | false ↦ free_if_done s y ]) x

-- Of all sessions, by lockspace name.
unfoldable pub finish : Step → Step
finish x = for_sessions finish_session x
