-- A session that isn't joined comes to need its connection by an entry that registers it.
use Rattle.sl_run.proofs.LawFacts.{orderly-front}
use Rattle.sl_run.specs.Lawful.{Orderly}
use Rattle.sl_run.specs.LawfulDelta.{LawfulDeltaCall}
use Rattle.sl_run.specs.LawfulConnections.{is_covered}
use Rattle.sl_run.specs.LawForms.{cut_at}
use Rattle.sl_words.proofs.Lists.{contains_first, got_inside}
use Rattle.sl_words.proofs.Options.{some_there}
use Rattle.sl_run_law.proofs.Sessions.TraceGrowth.{mine_marked, mine_next, other_next, to_all}
use Rattle.sl_run_law.proofs.Sessions.JoiningsInTurn.{joined_before, stage_for}
use Rattle.sl_run_law.proofs.Sessions.CallsAreMade.{IsNewCall, old_or_new}
use Rattle.sl_run_law.proofs.Sessions.JoiningsAreOrdered.{begun_before, open_stage}
use Rattle.sl_run_law.proofs.Sessions.CallOwners.{is_the_one}
use Rattle.sl_run_law.proofs.Sessions.EndedAreSilent.{no_more, stage_by}
use Rattle.sl_run_law.proofs.Sessions.MarksStay.{refused_more}
use Rattle.sl_run_law.specs.Sessions.SessionLaws.{IsSession}
use Rattle.sl_trace.specs.Sessions.{calls_of, free_write, has_open_write, is_covered_stage, joined_after, refused_after, removed_after, session_numbered, stage_after, stage_in, stage_of}
use Rattle.sl_trace.specs.declared.session.Session.{Session}
use Rattle.sl_trace.specs.declared.stage.Stage.{Stage}
use Rattle.sl_trace.specs.WatchdogConnections.{registers, registers_with}
use Rattle.sl_trace.specs.Traces.{Answered, Setting, Submitted, Trace, answer_of, is_ok_answer, is_write, mark, new_call, submitted}
use Rattle.sl_trace.specs.declared.effects.Call.{Call}
use Rattle.sl_trace.specs.declared.effects.Entry.{Entry}
use Rattle.sl_trace.specs.declared.effects.JoinStep.TheVariants.{ClaimWrite, DecidingRead, FirstRead, FirstRenewal, VerifyRead, WatchRead}
use Rattle.sl_trace.specs.declared.effects.JoinStep.{JoinStep}
use Rattle.sl_trace.specs.declared.effects.Move.TheVariants.{Register, Renew, Unregister}
use Rattle.sl_trace.specs.declared.effects.Move.{Move}
use Rattle.sl_trace.specs.declared.effects.Purpose.TheVariants.{RequestRead, RequestWrite, Joining, Lease, Leaving, Renewal, SeeRequest, Survey, ValueRead, ValueWrite}
use Rattle.sl_trace.specs.declared.effects.Purpose.{Purpose}
use Rattle.sl_trace.specs.declared.input.Answer.{Answer}
use Rattle.sl_trace.specs.declared.input.Input.TheVariants.{Answer as Told, Exit, Line, Number, Spawned, Wake}
use Rattle.sl_trace.specs.declared.input.Input.{Input}
use Rattle.sl_run_law.proofs.Watchdog.FoundCalls.{OpenWrite, call_inside, call_owner, open_write, the_open_write}
use Rattle.sl_run_law.proofs.Watchdog.ConnectionStands.{covered_open, older_call}
use Rattle.sl_words.proofs.CaseLaws.{false_is_true, no_value, none_some, one_value, true_is_false}
use Rattle.sl_words.proofs.WordLaws.{and_true, or_true}
use Rattle.sl_words.specs.Words.{some_is}
use Rattle.std.proofs.Common.{ap, inl, inr, refl, sym, ◌∙◌}
use Rattle.std.proofs.lemmas.Bool.{eqb-true, or_left}
use Rattle.std.specs.List.{list_any}
use Rattle.std.specs.Option.{option_or}
use Rattle.std.specs.Prelude.{Bool, Contains, List, None, Option, Some, [], bytes_eq, false, is_some, length, slice_get, suc, true, ℕ, ◌&&◌, ◌==◌, ◌||◌, ◌∷◌, ◌≡◌, ◌⊎◌}

-- ---- an answer makes no stage covered

pub less_by_step : (step : JoinStep) (done : Bool) → is_covered_stage (stage_after step done) ≡ true → is_covered_stage (stage_after step false) ≡ true
less_by_step FirstRead done h = h
less_by_step WatchRead done h = h
less_by_step DecidingRead done h = h
less_by_step ClaimWrite true h = absurd (false_is_true h)
less_by_step ClaimWrite false h = h
less_by_step VerifyRead done h = h
less_by_step FirstRenewal done h = h

pub less_covered : (p : Purpose) (done : Bool) → is_covered_stage (stage_for p done) ≡ true → is_covered_stage (stage_for p false) ≡ true
less_covered (Joining j step) done h = less_by_step step done h
less_covered Renewal done h = h
less_covered Survey done h = h
less_covered (Leaving j) done h = h
less_covered (Lease work step) done h = h
less_covered (RequestRead j) done h = h
less_covered (RequestWrite j o) done h = h
less_covered SeeRequest done h = h
less_covered (ValueWrite j) done h = h
less_covered (ValueRead j) done h = h

abbrev done_of : Option Answered → Bool
done_of o = some_is (λ (a : Answered). is_ok_answer a.answer) o

covered_before_by : (p : Purpose) (o : Option Answered) (a : Answered) → is_covered_stage (stage_for p (done_of (option_or o (Some a)))) ≡ true → is_covered_stage (stage_for p (done_of o)) ≡ true
covered_before_by p None a h = less_covered p (is_ok_answer a.answer) h
covered_before_by p (Some b) a h = h

pub covered_told : (es : Trace) (e : Entry) (m : Submitted) (a : Answer) (t : Bool)
    → is_covered_stage (stage_in (elim t as (λ x. Submitted) [ false ↦ m | true ↦ record m { answer = option_or m.answer (Some (answer_of es e a m.call)) } ] ∷ [])) ≡ true
    → is_covered_stage (stage_in (m ∷ [])) ≡ true
covered_told es e m a false h = h
covered_told es e m a true h = covered_before_by m.call.purpose m.answer (answer_of es e a m.call) h

pub covered_marked : (es : Trace) (e : Entry) (i : Input) (ms : List Submitted) → is_covered_stage (stage_in (mark es e i ms)) ≡ true → is_covered_stage (stage_in ms) ≡ true
covered_marked es e (Told n a) [] h = h
covered_marked es e (Told n a) (m ∷ ms) h = covered_told es e m a (m.call.number == n) h
covered_marked es e (Line text) ms h = h
covered_marked es e (Number text) ms h = h
covered_marked es e (Exit p) ms h = h
covered_marked es e (Spawned p ok) ms h = h
covered_marked es e Wake ms h = h

-- ---- nor does a call, but the two that are submitted with a registering

pub with_registers : (name : List ℕ) (x : ℕ) (m : Move) → registers_with name x m ≡ true → registers name m ≡ true
with_registers name x (Register n y) h = (and_true (bytes_eq n name) (y == x) h).0
with_registers name x (Renew n y) h = absurd (false_is_true h)
with_registers name x (Unregister n) h = absurd (false_is_true h)

pub any_more : (p q : Move → Bool) (ms : List Move) → ((m : Move) → p m ≡ true → q m ≡ true) → list_any p ms ≡ true → list_any q ms ≡ true
any_more p q [] more h = absurd (false_is_true h)
any_more p q (m ∷ ms) more h = any_two (p m) (q m) (list_any p ms) (list_any q ms) (more m) h (λ rest. any_more p q ms more rest)
  where
    any_two : (a b c d : Bool) → (a ≡ true → b ≡ true) → (a || c) ≡ true → (c ≡ true → d ≡ true) → (b || d) ≡ true
    any_two a true c d first h rest = refl
    any_two true false c d first h rest = absurd (false_is_true (first refl))
    any_two false false c d first h rest = rest h

not_now : (name : List ℕ) (x : ℕ) (ms : List Move) → list_any (registers name) ms ≡ false → list_any (registers_with name x) ms ≡ true → ⊥
not_now name x ms none h = true_is_false (sym (any_more (registers_with name x) (registers name) ms (with_registers name x) h) ∙ none)

new_covered : (st : Setting) (e : Entry) (past : Trace) (k : ℕ) (s : Session) (c : Submitted) (p : Purpose) → LawfulDeltaCall st (cut_at k e ∷ past) s c p
    → stage_of (cut_at k e ∷ past) s ≡ stage_in (calls_of (cut_at k e ∷ past) s) → list_any (registers s.lockspace) e.effects.moves ≡ false
    → is_covered_stage (stage_for p false) ≡ true → is_covered_stage (stage_in (calls_of (cut_at k e ∷ past) s)) ≡ true
new_covered st e past k s c (Joining j FirstRead) law stage none h = absurd (false_is_true h)
new_covered st e past k s c (Joining j WatchRead) law stage none h = absurd (false_is_true h)
new_covered st e past k s c (Joining j DecidingRead) law stage none h = absurd (not_now s.lockspace _ e.effects.moves none law.registered)
new_covered st e past k s c (Joining j ClaimWrite) law stage none h = ap is_covered_stage (sym stage ∙ law.deciding)
new_covered st e past k s c (Joining j VerifyRead) law stage none h = absurd (not_now s.lockspace _ e.effects.moves none law.registered)
new_covered st e past k s c (Joining j FirstRenewal) law stage none h = ap is_covered_stage (sym stage ∙ law.verifying)
new_covered st e past k s c Renewal law stage none h = absurd (false_is_true h)
new_covered st e past k s c Survey law stage none h = absurd (false_is_true h)
new_covered st e past k s c (Leaving j) law stage none h = absurd (false_is_true h)
new_covered st e past k s c (Lease work step) law stage none h = absurd (false_is_true h)
new_covered st e past k s c (RequestRead j) law stage none h = absurd (false_is_true h)
new_covered st e past k s c (RequestWrite j o) law stage none h = absurd (false_is_true h)
new_covered st e past k s c SeeRequest law stage none h = absurd (false_is_true h)
new_covered st e past k s c (ValueWrite j) law stage none h = absurd (false_is_true h)
new_covered st e past k s c (ValueRead j) law stage none h = absurd (false_is_true h)

-- ---- along an entry

abbrev WasCovered : Trace → Session → Trace → Type 0
WasCovered past s t = is_covered_stage (stage_in (calls_of t s)) ≡ true → is_covered_stage (stage_in (calls_of past s)) ≡ true

covered_call : (st : Setting) (e : Entry) (past : Trace) (s : Session) → Orderly st (e ∷ past) → IsSession st (e ∷ past) s → joined_after (e ∷ past) s ≡ None → refused_after (e ∷ past) s ≡ None
    → list_any (registers s.lockspace) e.effects.moves ≡ false → (k : ℕ) (c : Call) → slice_get e.effects.calls k ≡ Some c → (b : Bool) → (c.session == s.number) ≡ b
    → WasCovered past s (cut_at k e ∷ past) → WasCovered past s (cut_at (suc k) e ∷ past)
covered_call st e past s h its none refused quiet k c at false other before is =
    before (ap (λ ms. is_covered_stage (stage_in ms)) (sym (other_next past e s k c at other)) ∙ is)
covered_call st e past s h its none refused quiet k c at true mine before is =
    let t : Trace = cut_at k e ∷ past in
    let number = eqb-true c.session s.number mine in
    let here = is_the_one (session_numbered st (e ∷ past) c.session) s (h.calls.0.owned c (got_inside e.effects.calls k c at))
    (λ x is. one_value x s (session_numbered st (e ∷ past) s.number) (ap (λ n. session_numbered st (e ∷ past) n) (sym number) ∙ is) its) in
    before (new_covered st e past k s (new_call (length past) e.reading c) c.purpose (h.delta.0.calls k c s at here)
    (open_stage (joined_after t s) (removed_after t s) (refused_after t s) (free_write (calls_of t s)) (stage_in (calls_of t s)) none refused) quiet
    (ap (λ ms. is_covered_stage (stage_in ms)) (sym (mine_next past e s k c at mine)) ∙ is))

covered_entry : (st : Setting) (e : Entry) (past : Trace) (s : Session) → Orderly st (e ∷ past) → IsSession st (e ∷ past) s → joined_after (e ∷ past) s ≡ None → refused_after (e ∷ past) s ≡ None
    → list_any (registers s.lockspace) e.effects.moves ≡ false → WasCovered past s (e ∷ past)
covered_entry st e past s h its none refused quiet =
    to_all (WasCovered past s) e past
    (λ is. covered_marked past (cut_at 0 e) e.input (calls_of past s) (ap (λ ms. is_covered_stage (stage_in ms)) (sym (mine_marked past e s)) ∙ is))
    (λ k c at before. covered_call st e past s h its none refused quiet k c at (c.session == s.number) refl before)

-- ---- whole

-- A session whose connection had to stand before.
pub record WasSo (st : Setting) (past : Trace) (s : Session) : Type 0 where
  pub its : IsSession st past s
  pub covered : is_covered past s ≡ true

pub some_call : (ms : List Submitted) → is_covered_stage (stage_in ms) ≡ true → (m : Submitted) × Contains ms m
some_call [] h = absurd (false_is_true h)
some_call (m ∷ ms) h = (m, contains_first m ms)

pub refused_before : (e : Entry) (past : Trace) (s : Session) (o : Option ℕ) → refused_after past s ≡ o → refused_after (e ∷ past) s ≡ None → o ≡ None
refused_before e past s None is none = refl
refused_before e past s (Some k) is none = absurd (no_value k (refused_after (e ∷ past) s) (refused_more e past s k is) none)

pub by_joining : (st : Setting) (e : Entry) (past : Trace) (s : Session) → Orderly st (e ∷ past) → IsSession st (e ∷ past) s → joined_after (e ∷ past) s ≡ None → refused_after (e ∷ past) s ≡ None
    → is_covered_stage (stage_in (calls_of past s)) ≡ true → WasSo st past s
by_joining st e past s h its none refused is =
    let m = some_call (calls_of past s) is in
    let o = call_owner past s m.0 m.1 in
    let stage = open_stage (joined_after past s) (removed_after past s) (refused_after past s) (free_write (calls_of past s)) (stage_in (calls_of past s))
    (joined_before e past s (joined_after past s) refl none) (refused_before e past s (refused_after past s) refl refused) in
    record {
      its = ap (λ n. session_numbered st past n) (sym o.1)
          ∙ begun_before st e past s h (λ x at. one_value x s (session_numbered st (e ∷ past) s.number) at its) m.0 o.0 o.1;
      covered = or_left (is_covered_stage (stage_of past s)) (is_some (refused_after past s) && has_open_write past s) (ap is_covered_stage stage ∙ is);
    }

abbrev ended_by : Option ℕ → Option ℕ → Option ℕ → Option ℕ
ended_by joined removed refused = elim joined [ Some k ↦ removed | None ↦ refused ]

pub by_write : (st : Setting) (e : Entry) (past : Trace) (s : Session) (k : ℕ) → Orderly st (e ∷ past) → IsSession st (e ∷ past) s → joined_after (e ∷ past) s ≡ None
    → refused_after (e ∷ past) s ≡ Some k → (u : OpenWrite (e ∷ past) s) → Contains (mark past e e.input (submitted past)) u.call ⊎ IsNewCall (length past) e.reading e.effects.calls u.call
    → WasSo st past s
by_write st e past s k h its none refused u (inl old) =
    let w = older_call st e past s u.call h its old u.mine in
    let number = ap (λ c. c.session) (sym w.call) ∙ u.mine in
    let waits = open_write past s w.before (call_inside past s w.before w.inside number) (w.unmet u.waits) (ap (λ c. is_write c.op) (sym w.call) ∙ u.writes) in
    record { its = w.its; covered = covered_open st past s (orderly-front st (e ∷ []) past h) w.its waits }
by_write st e past s k h its none refused u (inr new) =
    let t : Trace = cut_at new.index e ∷ past in
    absurd (true_is_false (sym (h.calls.0.alive new.index u.call.call s new.call (ap (λ n. session_numbered st (e ∷ past) n) u.mine ∙ its))
    ∙ no_more t s k (ap (λ o. ended_by o (removed_after t s) (refused_after t s)) none ∙ refused)))

pub covered_stage_by : (joined removed refused : Option ℕ) (free : Option Submitted) (joining : Stage) → joined ≡ None → is_covered_stage (stage_by joined removed refused free joining) ≡ true
    → (refused ≡ None) × (is_covered_stage joining ≡ true)
covered_stage_by (Some k) removed refused free joining none h = absurd (none_some k (sym none))
covered_stage_by None removed (Some k) free joining none h = absurd (false_is_true h)
covered_stage_by None removed None free joining none h = (refl, h)

-- Where no entry registers its name, a session that isn't joined and needs its connection needed it before.
pub was_covered : (st : Setting) (e : Entry) (past : Trace) (s : Session) → Orderly st (e ∷ past) → IsSession st (e ∷ past) s → joined_after (e ∷ past) s ≡ None
    → is_covered (e ∷ past) s ≡ true → list_any (registers s.lockspace) e.effects.moves ≡ false → WasSo st past s
was_covered st e past s h its none is quiet =
    let t : Trace = e ∷ past in
    elim (or_true (is_covered_stage (stage_of t s)) (is_some (refused_after t s) && has_open_write t s) is) as (λ z. WasSo st past s) [
      | inl stage ↦
          let r = covered_stage_by (joined_after t s) (removed_after t s) (refused_after t s) (free_write (calls_of t s)) (stage_in (calls_of t s)) none stage in
          by_joining st e past s h its none r.0 (covered_entry st e past s h its none r.0 quiet r.1)
      | inr also ↦
          let b = and_true (is_some (refused_after t s)) (has_open_write t s) also in
          let k = some_there (refused_after t s) b.0 in
          let u = the_open_write t s b.1 in
          by_write st e past s k.0 h its none k.1 u (old_or_new (length past) e.reading e.effects.calls (mark past e e.input (submitted past)) u.call u.inside)
    ]
