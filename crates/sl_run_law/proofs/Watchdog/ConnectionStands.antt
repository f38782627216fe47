-- A session's connection stands while a write of it is unanswered, and nothing registers its name meanwhile.
use Rattle.sl_run.proofs.LawFacts.{orderly-front}
use Rattle.sl_run.specs.Lawful.{Orderly}
use Rattle.sl_run.specs.LawfulConnections.{is_covered}
use Rattle.sl_words.proofs.Lists.{contains_none, got_inside}
use Rattle.sl_run_law.proofs.Sessions.WritesAreCovered.{by_stage, covered_in}
use Rattle.sl_run_law.proofs.Sessions.JoiningsInTurn.{in_turn}
use Rattle.sl_run_law.proofs.Sessions.CallsAreMade.{old_or_new, was_marked}
use Rattle.sl_run_law.proofs.Sessions.JoiningsAreOrdered.{begun_before}
use Rattle.sl_run_law.proofs.Sessions.UnansweredNotRemoved.{not_removed}
use Rattle.sl_run_law.specs.Sessions.SessionLaws.{IsSession}
use Rattle.sl_trace.specs.Sessions.{calls_of, free_write, has_open_write, is_covered_stage, joined_after, refused_after, removed_after, session_numbered, sessions, stage_in, stage_of}
use Rattle.sl_trace.specs.declared.session.Session.{Session}
use Rattle.sl_trace.specs.WatchdogConnections.{last_registering, registers, unregisters}
use Rattle.sl_trace.specs.Traces.{Setting, Submitted, Trace, is_write, mark, submitted}
use Rattle.sl_trace.specs.declared.effects.Entry.{Entry}
use Rattle.sl_trace.specs.declared.effects.Move.{Move}
use Rattle.sl_run_law.proofs.Watchdog.FoundCalls.{call_inside, open_write}
use Rattle.sl_run_law.proofs.Watchdog.Readings.{registering_reading}
use Rattle.sl_words.proofs.CaseLaws.{one_value, true_is_false}
use Rattle.std.proofs.Common.{ap, arith, inl, inr, refl, subst, sym, ◌∙◌}
use Rattle.std.specs.List.{list_any}
use Rattle.std.specs.Prelude.{Bool, Contains, List, None, [], false, is_some, length, true, ℕ, ◌&&◌, ◌||◌, ◌∷◌, ◌≡◌, ◌≤◌}

-- ---- covered

-- The connection of a session with an open write must stand.
pub covered_open : (st : Setting) (es : Trace) (s : Session) → Orderly st es → IsSession st es s → has_open_write es s ≡ true → is_covered es s ≡ true
covered_open st es s h its waits =
    ap (λ w. is_covered_stage (stage_of es s) || is_some (refused_after es s) && w) waits
    ∙ by_stage (joined_after es s) (removed_after es s) (refused_after es s) (free_write (calls_of es s)) (stage_in (calls_of es s)) (not_removed st es s h its waits)
    (λ none. covered_in (calls_of es s) (in_turn st es s h (λ x at. one_value x s _ at its) none) waits)

-- ---- no registering

any_less : (p q : Move → Bool) (ms : List Move) → list_any (λ m. p m || q m) ms ≡ false → list_any p ms ≡ false
any_less p q [] h = refl
any_less p q (m ∷ ms) h = any_two (p m) (q m) (list_any p ms) (list_any (λ x. p x || q x) ms) h (λ rest. any_less p q ms rest)
  where
    any_two : (a b c d : Bool) → ((a || b) || d) ≡ false → (d ≡ false → c ≡ false) → (a || c) ≡ false
    any_two true b c d h rest = absurd (true_is_false h)
    any_two false true c d h rest = absurd (true_is_false h)
    any_two false false c d h rest = rest h

-- While its connection must stand, no entry registers its name.
pub not_registered : (st : Setting) (e : Entry) (past : Trace) (s : Session) → Orderly st (e ∷ past) → IsSession st past s → is_covered past s ≡ true → is_covered (e ∷ past) s ≡ true
    → list_any (registers s.lockspace) e.effects.moves ≡ false
not_registered st e past s h its was is =
    any_less (registers s.lockspace) (unregisters s.lockspace) e.effects.moves (h.watchdog.0.lasting s (got_inside (sessions st past) s.number s its) was is)

-- ---- an open write came after the last registering

-- What an open write of a longer trace was before.
pub record WasThere (st : Setting) (past : Trace) (s : Session) (m : Submitted) : Type 0 where
  pub before : Submitted
  pub inside : Contains (submitted past) before
  pub call : m.call ≡ before.call
  pub at : m.at ≡ before.at
  pub reading : m.reading ≡ before.reading
  pub unmet : m.answer ≡ None → before.answer ≡ None
  pub its : IsSession st past s

-- An older call of a session: it was there, and the session too.
pub older_call : (st : Setting) (e : Entry) (past : Trace) (s : Session) (m : Submitted) → Orderly st (e ∷ past) → IsSession st (e ∷ past) s
    → Contains (mark past e e.input (submitted past)) m → m.call.session ≡ s.number → WasThere st past s m
older_call st e past s m h its there mine =
    let w = was_marked past e e.input (submitted past) m there in
    let number = ap (λ c. c.session) (sym w.same.call) ∙ mine in
    record {
      before = w.before;
      inside = w.inside;
      call = w.same.call;
      at = w.same.at;
      reading = w.same.reading;
      unmet = w.unmet;
      its = ap (λ n. session_numbered st past n) (sym number)
          ∙ begun_before st e past s h (λ x at. one_value x s (session_numbered st (e ∷ past) s.number) at its) w.before w.inside number;
    }

abbrev registering_by : Bool → ℕ → ℕ → ℕ
registering_by b now before = elim b [ true ↦ now | false ↦ before ]

registering_kept : (b : Bool) (now before r : ℕ) → b ≡ false → before ≤ r → registering_by b now before ≤ r
registering_kept true now before r h le = absurd (true_is_false h)
registering_kept false now before r h le = le

-- An open write of a session was submitted after the last registering of its name.
pub written_after : (st : Setting) (es : Trace) (s : Session) (m : Submitted) → Orderly st es → IsSession st es s → Contains (submitted es) m → m.call.session ≡ s.number
    → m.answer ≡ None → is_write m.call.op ≡ true → last_registering es s.lockspace ≤ m.reading
written_after st [] s m h its there mine waits writes = absurd (contains_none m there)
written_after st (e ∷ past) s m h its there mine waits writes =
    elim (old_or_new (length past) e.reading e.effects.calls (mark past e e.input (submitted past)) m there) as (λ z. last_registering (e ∷ past) s.lockspace ≤ m.reading) [
      | inr new ↦ let r = new.reading_is in let below = registering_reading st (e ∷ past) s.lockspace h.is_trace in omega (arith, r, below)
      | inl old ↦
          let w = older_call st e past s m h its old mine in
          let front = orderly-front st (e ∷ []) past h in
          let number = ap (λ c. c.session) (sym w.call) ∙ mine in
          let wrote = ap (λ c. is_write c.op) (sym w.call) ∙ writes in
          let was = covered_open st past s front w.its (open_write past s w.before (call_inside past s w.before w.inside number) (w.unmet waits) wrote) in
          let is = covered_open st (e ∷ past) s h its (open_write (e ∷ past) s m (call_inside (e ∷ past) s m there mine) waits writes) in
          let before = written_after st past s w.before front w.its w.inside number (w.unmet waits) wrote in
          registering_kept (list_any (registers s.lockspace) e.effects.moves) e.reading (last_registering past s.lockspace) m.reading
          (not_registered st e past s h w.its was is) (subst (λ r. last_registering past s.lockspace ≤ r) (sym w.reading) before)
    ]
