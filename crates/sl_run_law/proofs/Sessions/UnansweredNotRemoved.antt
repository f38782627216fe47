-- A session whose write is unanswered is not removed.
use Rattle.sl_run.proofs.LawFacts.{orderly-front}
use Rattle.sl_run.specs.Lawful.{Orderly}
use Rattle.sl_run.specs.LawfulCalls.{may_submit}
use Rattle.sl_run.specs.LawForms.{cut_at}
use Rattle.sl_words.proofs.Lists.{any_found, any_of, got_inside, kept, kept_inside}
use Rattle.sl_words.proofs.Options.{none_is, some_there}
use Rattle.sl_run_law.proofs.Sessions.CallsAreMade.{IsNewCall, old_or_new, was_marked}
use Rattle.sl_run_law.proofs.Sessions.JoiningsAreOrdered.{begun_before}
use Rattle.sl_run_law.proofs.Sessions.EndedAreSilent.{no_more}
use Rattle.sl_run_law.proofs.Sessions.MarksStay.{joined_more}
use Rattle.sl_run_law.specs.Sessions.SessionLaws.{IsSession}
use Rattle.sl_trace.specs.Sessions.{calls_of, has_open_write, is_call_of, joined_after, refused_after, removed_after, removed_in, session_numbered, sessions, stage_of}
use Rattle.sl_trace.specs.declared.session.Session.{Session}
use Rattle.sl_trace.specs.WatchdogConnections.{unregisters}
use Rattle.sl_trace.specs.Traces.{Setting, Submitted, Trace, is_write, mark, submitted}
use Rattle.sl_trace.specs.declared.effects.Entry.{Entry}
use Rattle.sl_words.proofs.CaseLaws.{none_some, one_value, true_is_false}
use Rattle.sl_words.proofs.WordLaws.{and_true, choose_some}
use Rattle.std.proofs.Common.{ap, inl, inr, refl, sym, ◌∙◌}
use Rattle.std.proofs.lemmas.Bool.{eq-eqb, eqb-true}
use Rattle.std.specs.List.{list_any}
use Rattle.std.specs.Prelude.{Bool, Contains, None, Option, Some, [], false, filter, is_none, is_some, length, true, ℕ, ◌&&◌, ◌+◌, ◌||◌, ◌∷◌, ◌≡◌, ◌⊎◌}

record UnmetWrite (es : Trace) (s : Session) : Type 0 where
  call : Submitted
  inside : Contains (submitted es) call
  mine : call.call.session ≡ s.number
  unmet : call.answer ≡ None
  writes : is_write call.call.op ≡ true

unmet_write : (es : Trace) (s : Session) → has_open_write es s ≡ true → UnmetWrite es s
unmet_write es s h =
    let found = any_found (λ (m : Submitted). is_write m.call.op) (filter (λ (m : Submitted). is_none m.answer) (calls_of es s)) h in
    let waits = kept_inside (λ (m : Submitted). is_none m.answer) (calls_of es s) found.0 found.1 in
    let its = kept_inside (is_call_of s) (submitted es) found.0 waits.0 in
    record { call = found.0; inside = its.0; mine = eqb-true found.0.call.session s.number its.1; unmet = none_is found.0.answer waits.1; writes = found.2 }

removal : (past : Trace) (s : Session) (e : Entry) (k : ℕ) → removed_in past s e ≡ Some k → (is_some (joined_after past s) ≡ true) × (list_any (unregisters s.lockspace) e.effects.moves ≡ true)
removal past s e k is =
    and_true (is_some (joined_after past s)) (list_any (unregisters s.lockspace) e.effects.moves)
    (choose_some (is_some (joined_after past s) && list_any (unregisters s.lockspace) e.effects.moves) (length past + 1) k is).0

abbrev removed_by : Option ℕ → Option ℕ → Option ℕ
removed_by before now = elim before [ Some k ↦ Some k | None ↦ now ]

removed_joined : (es : Trace) (s : Session) (k : ℕ) → removed_after es s ≡ Some k → (j : ℕ) × (joined_after es s ≡ Some j)
removed_joined [] s k is = absurd (none_some k is)
removed_joined (e ∷ past) s k is = by (λ i was. removed_joined past s i was) (removed_after past s) refl is where
  by : ((i : ℕ) → removed_after past s ≡ Some i → (j : ℕ) × (joined_after past s ≡ Some j)) → (o : Option ℕ) → removed_after past s ≡ o → removed_by o (removed_in past s e) ≡ Some k
      → (j : ℕ) × (joined_after (e ∷ past) s ≡ Some j)
  by more (Some i) was at = let r = more i was in (r.0, joined_more e past s r.0 r.1)
  by more None was at = let r = some_there (joined_after past s) (removal past s e k at).0 in (r.0, joined_more e past s r.0 r.1)

gone_by : (es : Trace) (s : Session) (j k : ℕ) → joined_after es s ≡ Some j → removed_after es s ≡ Some k → may_submit (stage_of es s) ≡ false
gone_by es s j k joined gone = no_more es s k (ap (λ o. elim o as (λ x. Option ℕ) [ Some i ↦ removed_after es s | None ↦ refused_after es s ]) joined ∙ gone)

present_by : (joined removed refused : Option ℕ) (b : Bool) (j : ℕ) → joined ≡ Some j → removed ≡ None
    → (is_none (elim joined as (λ x. Option ℕ) [ Some k ↦ removed | None ↦ refused ]) || is_none joined && b) ≡ true
present_by None removed refused b j is gone = absurd (none_some j is)
present_by (Some k) None refused b j is gone = refl
present_by (Some k) (Some i) refused b j is gone = absurd (none_some i (sym gone))

-- The write was submitted before the entry.
older_write : (st : Setting) (e : Entry) (past : Trace) (s : Session) (k : ℕ) → Orderly st (e ∷ past) → IsSession st (e ∷ past) s → removed_after (e ∷ past) s ≡ Some k
    → (u : UnmetWrite (e ∷ past) s) → Contains (mark past e e.input (submitted past)) u.call ⊎ IsNewCall (length past) e.reading e.effects.calls u.call
    → UnmetWrite past s × IsSession st past s
older_write st e past s k h its gone u (inr new) =
    let t : Trace = cut_at new.index e ∷ past in
    let joined = removed_joined t s k gone in
    absurd (true_is_false (sym (h.calls.0.alive new.index u.call.call s new.call (ap (λ n. session_numbered st (e ∷ past) n) u.mine ∙ its)) ∙ gone_by t s joined.0 k joined.1 gone))
older_write st e past s k h its gone u (inl old) =
    let w = was_marked past e e.input (submitted past) u.call old in
    let number = ap (λ c. c.session) (sym w.same.call) ∙ u.mine in (
      record { call = w.before; inside = w.inside; mine = number; unmet = w.unmet u.unmet; writes = ap (λ c. is_write c.op) (sym w.same.call) ∙ u.writes },
      ap (λ n. session_numbered st past n) (sym number)
          ∙ begun_before st e past s h (λ x at. one_value x s (session_numbered st (e ∷ past) s.number) at its) w.before w.inside number,
    )

write_unmet : (es : Trace) (s : Session) → UnmetWrite es s → has_open_write es s ≡ true
write_unmet es s u =
    any_of (λ (m : Submitted). is_write m.call.op) (filter (λ (m : Submitted). is_none m.answer) (calls_of es s)) u.call u.writes
    (kept (λ (m : Submitted). is_none m.answer) (calls_of es s) u.call (ap (λ o. is_none o) u.unmet)
    (kept (is_call_of s) (submitted es) u.call (eq-eqb u.call.call.session s.number u.mine) u.inside))

parts_by : (st : Setting) (e : Entry) (past : Trace) (s : Session) (k : ℕ) → Orderly st (e ∷ past) → IsSession st past s → UnmetWrite (e ∷ past) s
    → (o : Option ℕ) → removed_after past s ≡ o → removed_by o (removed_in past s e) ≡ Some k → ((i : ℕ) → removed_after past s ≡ Some i → ⊥) → ⊥
parts_by st e past s k h its u (Some i) was at rest = rest i was
parts_by st e past s k h its u None was at rest =
    let r = removal past s e k at in
    let j = some_there (joined_after past s) r.0 in
    true_is_false (sym (write_unmet (e ∷ past) s u)
    ∙ (h.watchdog.0.removals s (got_inside (sessions st past) s.number s its)
    (present_by (joined_after past s) (removed_after past s) (refused_after past s) (has_open_write past s) j.0 j.1 was) r.1).1)

quiet : (st : Setting) (es : Trace) (s : Session) → Orderly st es → IsSession st es s → (k : ℕ) → removed_after es s ≡ Some k → UnmetWrite es s → ⊥
quiet st [] s h its k gone u = none_some k gone
quiet st (e ∷ past) s h its k gone u =
    let old = older_write st e past s k h its gone u (old_or_new (length past) e.reading e.effects.calls (mark past e e.input (submitted past)) u.call u.inside) in
    parts_by st e past s k h old.1 u (removed_after past s) refl gone
    (λ i was. quiet st past s (orderly-front st (e ∷ []) past h) old.1 i was old.0)

none_by : (o : Option ℕ) → ((k : ℕ) → o ≡ Some k → ⊥) → o ≡ None
none_by None never = refl
none_by (Some k) never = absurd (never k refl)

pub not_removed : (st : Setting) (es : Trace) (s : Session) → Orderly st es → IsSession st es s → has_open_write es s ≡ true → removed_after es s ≡ None
not_removed st es s h its waits = none_by (removed_after es s) (λ k gone. quiet st es s h its k gone (unmet_write es s waits))
