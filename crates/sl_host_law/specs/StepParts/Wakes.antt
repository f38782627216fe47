-- What a wake makes due, and what comes last in a step, by what is kept of a member.
use Rattle.sl_due.specs.CarriedDelta.{carry_delta}
use Rattle.sl_due.specs.DueTimeOuts.{remove_connection}
use Rattle.sl_due.specs.CarriedLease.{carry_lease}
use Rattle.sl_due.specs.DueWake.{end_if_done, finish_session, free_if_done, join_on_wake, renew_on_wake, settle_on_wake, settlings}
use Rattle.sl_due.specs.Steps.{Step, for_each, when, with_some}
use Rattle.sl_host_law.specs.Decisions.CommandDecisions.{held_of, is_active_member, is_open_on}
use Rattle.sl_host_state.specs.HeardInputs.{setting_of}
use Rattle.sl_host_state.specs.KeptState.{HostState, MemberState}
use Rattle.sl_host_state.specs.MadeEffects.{has_write_open}
use Rattle.sl_host_state.specs.HostStands.{bits_of}
use Rattle.sl_host_state.specs.declared.kept_parts.JoinCall.{JoinCall}
use Rattle.sl_host_law.specs.Questions.Answers.{settling_in}
use Rattle.sl_host_law.specs.Questions.Jobs.{running_in}
use Rattle.sl_host_law.specs.Questions.Members.{IsMemberAt, has_call_open}
use Rattle.sl_trace.specs.DeltaDecisions.{DeltaLease, next_by_time, next_free, next_renewal}
use Rattle.sl_trace.specs.declared.delta.DeltaNext.TheVariants.{Nothing}
use Rattle.sl_trace.specs.declared.delta.DeltaNext.{DeltaNext}
use Rattle.sl_trace.specs.declared.effects.Spot.{Spot}
use Rattle.sl_trace.specs.declared.effects.Work.TheVariants.{Settling}
use Rattle.sl_trace.specs.declared.input.Input.{Input}
use Rattle.sl_words.specs.Words.{is_empty}
use Rattle.std.specs.List.{list_any}
use Rattle.std.specs.Prelude.{Bool, List, None, Option, Some, false, is_some, map, not, true, ℕ, ◌&&◌, ◌≡◌}

-- The delta lease of a member.
abbrev pub delta_in : HostState → MemberState → DeltaLease
delta_in h m = record { timing = h.config.timing; layout = h.config.layout; host = h.config.name; lockspace = m.who.lockspace; id = m.who.id }

-- What is due of a joining by time, by its newest call once that is answered.
abbrev pub next_by_newest : DeltaLease → ℕ → Option JoinCall → DeltaNext
next_by_newest l now None = Nothing
next_by_newest l now (Some n) = elim n.answered [ None ↦ Nothing | Some a ↦ next_by_time l now n.made a n.step ]

-- The bits of its renewal.
abbrev pub bits_in : HostState → MemberState → List ℕ
bits_in h m = bits_of (setting_of h) m.asked h.reading

-- Whether no open call is on the area.
abbrev pub is_free_at : HostState → Spot → Bool
is_free_at h at = not (list_any (is_open_on h.config.layout at) h.unanswered)

-- Each part of a wake and of a step's end is this.
pub record MemberWakes (h : HostState) (x : Step) (m : MemberState) : Type 0 where
  pub joining : join_on_wake m.who x
      ≡ with_some m.who.job (λ j. when (running_in h j) (carry_delta m.who (next_by_newest (delta_in h m) h.reading m.joining.newest))) x
  pub renewal : renew_on_wake m.who x ≡ when m.joined (carry_delta m.who (next_renewal (delta_in h m) h.reading m.known (bits_in h m))) x
  pub settlings : settlings m.who x ≡ when (is_active_member m) (for_each (map (λ l. l.spot) m.leases) (settle_on_wake m.who)) x
  pub settling : (at : Spot) → settle_on_wake m.who at x ≡ when (is_free_at h at) (carry_lease m.who at Settling (settling_in h m x at)) x
  pub finish : finish_session m.who x
      ≡ when m.joined (λ y. elim (is_some m.renewing.recovery) [ true ↦ end_if_done m.who y | false ↦ free_if_done m.who y ]) x
  pub ending : end_if_done m.who x ≡ when (is_empty (held_of h m) && not (has_write_open h m.who.number)) (remove_connection m.who.lockspace) x
  pub freeing : free_if_done m.who x
      ≡ when (is_empty (held_of h m) && not (has_call_open h m.who.number)) (carry_delta m.who (next_free (delta_in h m) h.reading m.known)) x

abbrev pub MembersWake : Type 0
MembersWake = (i : Input) (h : HostState) (x : Step) (k : ℕ) (m : MemberState) → IsMemberAt i h x k m → MemberWakes h x m
