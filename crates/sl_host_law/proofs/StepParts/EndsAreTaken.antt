-- Renewals on a wake, removals and frees are taken.
use Rattle.sl_area.specs.AreaLayout.{delta_offset}
use Rattle.sl_host_law.proofs.Calls.CallsAreTaken.{calls_are_taken}
use Rattle.sl_host_law.specs.Calls.MemberCalls.{CallFits, is_idle_job, is_leaving_alone}
use Rattle.sl_host_law.specs.Decisions.CommandDecisions.{held_of}
use Rattle.sl_due.specs.CarriedDelta.{carry_delta}
use Rattle.sl_due.specs.DueTimeOuts.{remove_connection}
use Rattle.sl_due.specs.DueWake.{end_if_done, finish_session, free_if_done, renew_on_wake}
use Rattle.sl_due.specs.Steps.{Step, add_call, add_move, seen, when}
use Rattle.sl_host_state.proofs.StepQuestions.{questions_are_answered}
use Rattle.sl_host_state.specs.KeptState.{Config, HostState, MemberState}
use Rattle.sl_host_state.specs.MadeEffects.{has_write_open, next_submitted, with_move}
use Rattle.sl_host_state.specs.HostStands.{Keeps, Stands}
use Rattle.sl_host_law.proofs.StepParts.MembersWake.{members_wake}
use Rattle.sl_host_law.specs.StepParts.Ends.{EndsAreTaken, FreesAlone, ending_in, finishing, freeing_for, freeing_in, removing, renewing_in, writing_own}
use Rattle.sl_host_law.specs.StepParts.Wakes.{bits_in, delta_in}
use Rattle.sl_words.proofs.Numbers.{number_itself}
use Rattle.sl_host_law.proofs.Questions.MembersAnswer.{members_answer}
use Rattle.sl_host_law.specs.Questions.Members.{IsMemberAt, has_call_open}
use Rattle.sl_host_law.proofs.Replies.MovesAreTaken.{moves_are_taken}
use Rattle.sl_host_law.specs.Replies.Moves.{EndsBegun}
use Rattle.sl_sector.specs.Bitmaps.{no_bits}
use Rattle.sl_sector.specs.declared.sector.DeltaRec.{DeltaRec}
use Rattle.sl_sector.specs.declared.sector.DeltaState.TheVariants.{Free, Live}
use Rattle.sl_sector.specs.declared.sector.Rec.TheVariants.{DeltaIs}
use Rattle.sl_trace.specs.DeltaDecisions.{DeltaLease, delta_record, has_seq_left, is_renewal_due, next_renewal, own_offset}
use Rattle.sl_trace.specs.Sessions.{is_delta_purpose, open_calls_of}
use Rattle.sl_trace.specs.declared.delta.DeltaKnown.{DeltaKnown}
use Rattle.sl_trace.specs.declared.delta.DeltaNext.TheVariants.{Nothing, WriteFree, WriteRenewal}
use Rattle.sl_trace.specs.declared.delta.DeltaNext.{DeltaNext}
use Rattle.sl_time.specs.Times.{renew}
use Rattle.sl_trace.specs.Traces.{Submitted}
use Rattle.sl_trace.specs.declared.effects.Move.TheVariants.{Unregister}
use Rattle.sl_trace.specs.declared.effects.Op.TheVariants.{WriteRecord}
use Rattle.sl_trace.specs.declared.effects.Purpose.TheVariants.{Leaving, Renewal}
use Rattle.sl_trace.specs.declared.effects.Purpose.{Purpose}
use Rattle.sl_trace.specs.declared.input.Input.{Input}
use Rattle.sl_words.proofs.CaseLaws.{false_is_true}
use Rattle.sl_words.proofs.WordLaws.{and_true}
use Rattle.sl_words.specs.Words.{is_empty}
use Rattle.std.proofs.Common.{ap, refl, subst, sym, ◌∙◌}
use Rattle.std.specs.List.{list_any}
use Rattle.std.specs.Prelude.{Bool, IsTrue, List, None, Option, Some, bytes_eq, cond, false, is_some, nat_le, not, true, [], ℕ, ◌&&◌, ◌+◌, ◌==◌, ◌∷◌, ◌≡◌, ◌||◌}

-- ---- the own sector

-- A renewal of the member's generation fits, where no call on the sector is open.
renewal_fits : (h : HostState) (m : MemberState) (d : DeltaRec) → m.known.busy ≡ false → d.generation ≡ m.known.generation
    → CallFits h m (next_submitted h m.who.number m.who.path Renewal (delta_offset h.config.layout m.who.offset m.who.id) (WriteRecord (DeltaIs d)))
renewal_fits h m d busy generation =
    record {
      later = refl;
      job = refl;
      turn = ap not busy;
      generation = ap (λ n. n == m.known.generation || is_empty m.leases) generation ∙ ap (λ b. b || is_empty m.leases) (number_itself m.known.generation);
      value = refl;
      lease = refl;
      again = refl;
    }

-- And the free, where its job waits for no call.
free_fits : (h : HostState) (m : MemberState) (j : ℕ) (d : DeltaRec) → IsTrue (is_idle_job h j || is_leaving_alone h m j) → m.known.busy ≡ false → d.generation ≡ m.known.generation
    → CallFits h m (next_submitted h m.who.number m.who.path (Leaving j) (delta_offset h.config.layout m.who.offset m.who.id) (WriteRecord (DeltaIs d)))
free_fits h m j d job busy generation =
    record {
      later = refl;
      job = job;
      turn = ap not busy;
      generation = ap (λ n. n == m.known.generation || is_empty m.leases) generation ∙ ap (λ b. b || is_empty m.leases) (number_itself m.known.generation);
      value = refl;
      lease = refl;
      again = refl;
    }

-- The sector's place, by the configuration.
place_is : (h : HostState) (x : Step) (m : MemberState) → Keeps h x.setting (seen x) → own_offset x.setting m.who ≡ delta_offset h.config.layout m.who.offset m.who.id
place_is h x m k = ap (λ (c : Config). delta_offset c.layout m.who.offset m.who.id) k.config

-- A write of it that fits is taken.
writes : (i : Input) (h : HostState) (x : Step) (k : ℕ) (m : MemberState) (purpose : Purpose) (d : DeltaRec) → IsMemberAt i h x k m
    → CallFits h m (next_submitted h m.who.number m.who.path purpose (delta_offset h.config.layout m.who.offset m.who.id) (WriteRecord (DeltaIs d)))
    → Stands i (writing_own m purpose d h) (add_call m.who purpose (own_offset x.setting m.who) (WriteRecord (DeltaIs d)) x)
writes i h x k m purpose d at fits =
    subst (λ o. Stands i (writing_own m purpose d h) (add_call m.who purpose o (WriteRecord (DeltaIs d)) x)) (sym (place_is h x m at.stands.keeps))
    (calls_are_taken h k m m.who.path purpose (delta_offset h.config.layout m.who.offset m.who.id) (WriteRecord (DeltaIs d)) at.there fits i x at.stands)

-- ---- a renewal

not_true : (b : Bool) → not b ≡ true → b ≡ false
not_true false is = refl
not_true true is = absurd (false_is_true is)

-- It is due only where no call on the sector is open.
due_is_idle : (l : DeltaLease) (now : ℕ) (k : DeltaKnown) → is_renewal_due l now k ≡ true → k.busy ≡ false
due_is_idle l now k is =
    let first = and_true (not k.recovering && nat_le (k.renewed + renew l.timing) now && not k.busy) (has_seq_left k) is in
    not_true k.busy (and_true (not k.recovering && nat_le (k.renewed + renew l.timing) now) (not k.busy) first.0).1

-- The record.
abbrev renewal_of : HostState → MemberState → DeltaRec
renewal_of h m = delta_record (delta_in h m) Live m.known.generation (m.known.seq + 1) h.reading (bits_in h m)

renewal : (i : Input) (h : HostState) (x : Step) (k : ℕ) (m : MemberState) → IsMemberAt i h x k m → Stands i (renewing_in m h) (renew_on_wake m.who x)
unfolding carry_delta next_renewal
renewal i h x k m at =
    subst (λ y. Stands i (renewing_in m h) y) (sym (members_wake i h x k m at).renewal) (by m.joined (is_renewal_due (delta_in h m) h.reading m.known) refl) where
      by : (b d : Bool) → is_renewal_due (delta_in h m) h.reading m.known ≡ d → Stands i (cond (b && d) (writing_own m Renewal (renewal_of h m) h) h)
          (when b (carry_delta m.who (elim d as (λ z. DeltaNext) [ false ↦ Nothing | true ↦ WriteRenewal (renewal_of h m) ])) x)
      by false d is = at.stands
      by true false is = at.stands
      by true true is = writes i h x k m Renewal (renewal_of h m) at (renewal_fits h m (renewal_of h m) (due_is_idle (delta_in h m) h.reading m.known is) refl)

-- ---- connections

connection : (i : Input) (h : HostState) (x : Step) (name : List ℕ) → Stands i h x → EndsBegun (Unregister name) h → Stands i (removing name h) (remove_connection name x)
connection i h x name s ends =
    subst (λ b. Stands i (removing name h) (when b (add_move (Unregister name)) x)) (sym (questions_are_answered.registered i h x name s)) (by (list_any (λ n. bytes_eq n name) h.connected)) where
      by : (b : Bool) → Stands i (cond b (with_move (Unregister name) h) h) (when b (add_move (Unregister name)) x)
      by true = moves_are_taken (Unregister name) i h x s ends
      by false = s

ending : (i : Input) (h : HostState) (x : Step) (k : ℕ) (m : MemberState) → IsMemberAt i h x k m → EndsBegun (Unregister m.who.lockspace) h → Stands i (ending_in m h) (end_if_done m.who x)
ending i h x k m at ends =
    subst (λ y. Stands i (ending_in m h) y) (sym (members_wake i h x k m at).ending) (by (is_empty (held_of h m) && not (has_write_open h m.who.number))) where
      by : (b : Bool) → Stands i (cond b (removing m.who.lockspace h) h) (when b (remove_connection m.who.lockspace) x)
      by true = connection i h x m.who.lockspace at.stands ends
      by false = at.stands

-- ---- the free

-- A session without an open call has none on its sector.
idle_sector : (i : Input) (h : HostState) (x : Step) (k : ℕ) (m : MemberState) → IsMemberAt i h x k m → has_call_open h m.who.number ≡ false → m.known.busy ≡ false
idle_sector i h x k m at none =
    sym (ap (λ (d : DeltaKnown). d.busy) (at.stands.keeps.members k m at.there).known)
    ∙ empty (open_calls_of (seen x) m.who) ((members_answer i h x k m at).idle ∙ ap not none) where
      empty : (ms : List Submitted) → is_empty ms ≡ true → list_any (λ c. is_delta_purpose c.call.purpose) ms ≡ false
      empty [] is = refl
      empty (c ∷ cs) is = absurd (false_is_true is)

-- The record.
abbrev free_of : HostState → MemberState → DeltaRec
free_of h m = delta_record (delta_in h m) Free m.known.generation (m.known.seq + 1) h.reading no_bits

-- What the leaving comes to.
abbrev next_for : HostState → MemberState → Option ℕ → DeltaNext
next_for h m o = elim o as (λ z. DeltaNext) [ None ↦ Nothing | Some j ↦ elim m.known.freed as (λ z. DeltaNext) [ true ↦ Nothing | false ↦ WriteFree j (free_of h m) ] ]

freeing : (i : Input) (h : HostState) (x : Step) (k : ℕ) (m : MemberState) → IsMemberAt i h x k m → FreesAlone h m → Stands i (freeing_in m h) (free_if_done m.who x)
unfolding carry_delta
freeing i h x k m at alone =
    subst (λ y. Stands i (freeing_in m h) y) (sym (members_wake i h x k m at).freeing) (by (is_empty (held_of h m)) (has_call_open h m.who.number) refl) where
      written : (j : ℕ) → m.known.leaving ≡ Some j → has_call_open h m.who.number ≡ false → (f : Bool) → m.known.freed ≡ f
          → Stands i (cond f h (writing_own m (Leaving j) (free_of h m) h)) (carry_delta m.who (elim f as (λ z. DeltaNext) [ true ↦ Nothing | false ↦ WriteFree j (free_of h m) ]) x)
      written j leaves none true is = at.stands
      written j leaves none false is = writes i h x k m (Leaving j) (free_of h m) at (free_fits h m j (free_of h m) (alone j leaves is) (idle_sector i h x k m at none) refl)

      left : has_call_open h m.who.number ≡ false → (o : Option ℕ) → m.known.leaving ≡ o → Stands i (freeing_for m o h) (carry_delta m.who (next_for h m o) x)
      left none None leaves = at.stands
      left none (Some j) leaves = written j leaves none m.known.freed refl

      by : (e o : Bool) → has_call_open h m.who.number ≡ o
          → Stands i (cond (e && not o) (freeing_for m m.known.leaving h) h) (when (e && not o) (carry_delta m.who (next_for h m m.known.leaving)) x)
      by false o is = at.stands
      by true true is = at.stands
      by true false is = left is m.known.leaving refl

finish : (i : Input) (h : HostState) (x : Step) (k : ℕ) (m : MemberState) → IsMemberAt i h x k m → EndsBegun (Unregister m.who.lockspace) h → FreesAlone h m → Stands i (finishing m h) (finish_session m.who x)
finish i h x k m at ends alone =
    subst (λ y. Stands i (finishing m h) y) (sym (members_wake i h x k m at).finish) (by m.joined (is_some m.renewing.recovery)) where
      by : (b c : Bool) → Stands i (cond b (cond c (ending_in m h) (freeing_in m h)) h) (when b (λ y. elim c as (λ z. Step) [ true ↦ end_if_done m.who y | false ↦ free_if_done m.who y ]) x)
      by false c = at.stands
      by true true = ending i h x k m at ends
      by true false = freeing i h x k m at alone

pub ends_are_taken : EndsAreTaken
ends_are_taken = record { renewal = renewal; connection = connection; ending = ending; freeing = freeing; finish = finish }
