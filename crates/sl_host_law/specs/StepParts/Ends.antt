-- Renewals on a wake, and what comes last in a step, as functions of what is kept.
use Rattle.sl_area.specs.AreaLayout.{delta_offset}
use Rattle.sl_host_law.specs.Calls.MemberCalls.{is_idle_job, is_leaving_alone}
use Rattle.sl_host_law.specs.Decisions.CommandDecisions.{held_of}
use Rattle.sl_due.specs.DueTimeOuts.{remove_connection}
use Rattle.sl_due.specs.DueWake.{end_if_done, finish_session, free_if_done, renew_on_wake}
use Rattle.sl_due.specs.Steps.{Step}
use Rattle.sl_host_state.specs.KeptState.{HostState, MemberState}
use Rattle.sl_host_state.specs.MadeEffects.{has_write_open, with_call, with_move}
use Rattle.sl_host_state.specs.HostStands.{Stands}
use Rattle.sl_host_law.specs.StepParts.Wakes.{bits_in, delta_in}
use Rattle.sl_host_law.specs.Questions.Members.{IsMemberAt, has_call_open}
use Rattle.sl_host_law.specs.Replies.Moves.{EndsBegun}
use Rattle.sl_sector.specs.Bitmaps.{no_bits}
use Rattle.sl_sector.specs.declared.sector.DeltaRec.{DeltaRec}
use Rattle.sl_sector.specs.declared.sector.DeltaState.TheVariants.{Free, Live}
use Rattle.sl_sector.specs.declared.sector.Rec.TheVariants.{DeltaIs}
use Rattle.sl_trace.specs.DeltaDecisions.{delta_record, is_renewal_due}
use Rattle.sl_trace.specs.declared.effects.Move.TheVariants.{Unregister}
use Rattle.sl_trace.specs.declared.effects.Op.TheVariants.{WriteRecord}
use Rattle.sl_trace.specs.declared.effects.Purpose.TheVariants.{Leaving, Renewal}
use Rattle.sl_trace.specs.declared.effects.Purpose.{Purpose}
use Rattle.sl_trace.specs.declared.input.Input.{Input}
use Rattle.sl_words.specs.Words.{is_empty}
use Rattle.std.specs.List.{list_any}
use Rattle.std.specs.Prelude.{IsTrue, List, None, Option, Some, bytes_eq, cond, false, is_some, not, ℕ, ◌&&◌, ◌+◌, ◌≡◌, ◌||◌}

-- The member's own sector is written.
abbrev pub writing_own : MemberState → Purpose → DeltaRec → HostState → HostState
writing_own m purpose d h =
    with_call m.who.number m.who.path purpose (delta_offset h.config.layout m.who.offset m.who.id) (WriteRecord (DeltaIs d)) h

-- A renewal, where it is due.
abbrev pub renewing_in : MemberState → HostState → HostState
renewing_in m h =
    cond (m.joined && is_renewal_due (delta_in h m) h.reading m.known)
    (writing_own m Renewal (delta_record (delta_in h m) Live m.known.generation (m.known.seq + 1) h.reading (bits_in h m)) h) h

-- A connection that stands is removed.
abbrev pub removing : List ℕ → HostState → HostState
removing name h = cond (list_any (λ n. bytes_eq n name) h.connected) (with_move (Unregister name) h) h

-- The connection of a session in recovery that holds nothing and has no write unanswered.
abbrev pub ending_in : MemberState → HostState → HostState
ending_in m h = cond (is_empty (held_of h m) && not (has_write_open h m.who.number)) (removing m.who.lockspace h) h

-- The free of this leaving, unless it was written.
abbrev pub freeing_for : MemberState → Option ℕ → HostState → HostState
freeing_for m None h = h
freeing_for m (Some j) h =
    cond m.known.freed h (writing_own m (Leaving j) (delta_record (delta_in h m) Free m.known.generation (m.known.seq + 1) h.reading no_bits) h)

-- The free of a leaving session that holds nothing and has no call unanswered.
abbrev pub freeing_in : MemberState → HostState → HostState
freeing_in m h = cond (is_empty (held_of h m) && not (has_call_open h m.who.number)) (freeing_for m m.known.leaving h) h

-- What comes last of a member.
abbrev pub finishing : MemberState → HostState → HostState
finishing m h = cond m.joined (cond (is_some m.renewing.recovery) (ending_in m h) (freeing_in m h)) h

-- The job of its leaving has no other call open.
abbrev pub FreesAlone : HostState → MemberState → Type 0
FreesAlone h m = (j : ℕ) → m.known.leaving ≡ Some j → m.known.freed ≡ false → IsTrue (is_idle_job h j || is_leaving_alone h m j)

-- The state follows the step.
pub record EndsAreTaken : Type 0 where
  pub renewal : (i : Input) (h : HostState) (x : Step) (k : ℕ) (m : MemberState) → IsMemberAt i h x k m → Stands i (renewing_in m h) (renew_on_wake m.who x)
  pub connection : (i : Input) (h : HostState) (x : Step) (name : List ℕ) → Stands i h x → EndsBegun (Unregister name) h → Stands i (removing name h) (remove_connection name x)
  pub ending : (i : Input) (h : HostState) (x : Step) (k : ℕ) (m : MemberState) → IsMemberAt i h x k m → EndsBegun (Unregister m.who.lockspace) h
      → Stands i (ending_in m h) (end_if_done m.who x)
  pub freeing : (i : Input) (h : HostState) (x : Step) (k : ℕ) (m : MemberState) → IsMemberAt i h x k m → FreesAlone h m → Stands i (freeing_in m h) (free_if_done m.who x)
  pub finish : (i : Input) (h : HostState) (x : Step) (k : ℕ) (m : MemberState) → IsMemberAt i h x k m → EndsBegun (Unregister m.who.lockspace) h → FreesAlone h m
      → Stands i (finishing m h) (finish_session m.who x)
