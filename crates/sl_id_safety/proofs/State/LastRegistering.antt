-- Which entry last registered the connection of a joining session that needs it: that of its newest call that is made with a registering.
use Rattle.sl_run.proofs.LawFacts.{orderly-front}
use Rattle.sl_run.specs.Lawful.{Orderly}
use Rattle.sl_run.specs.LawfulDelta.{LawfulDeltaCall}
use Rattle.sl_run.specs.LawfulConnections.{is_covered}
use Rattle.sl_run.specs.LawForms.{cut_at}
use Rattle.sl_words.proofs.Lists.{got_inside}
use Rattle.sl_words.proofs.Options.{some_there}
use Rattle.sl_run_law.proofs.Sessions.TraceGrowth.{mine_marked, mine_next, other_next, to_all}
use Rattle.sl_run_law.proofs.Sessions.JoiningsInTurn.{joined_before, stage_for}
use Rattle.sl_run_law.proofs.Sessions.CallsAreMade.{old_or_new, same_answered}
use Rattle.sl_run_law.proofs.Sessions.JoiningsAreOrdered.{open_stage}
use Rattle.sl_run_law.proofs.Sessions.CallOwners.{is_the_one}
use Rattle.sl_run_law.specs.Sessions.SessionLaws.{IsSession}
use Rattle.sl_trace.specs.Sessions.{calls_of, free_write, has_open_write, is_covered_stage, joined_after, refused_after, removed_after, session_numbered, stage_in, stage_of}
use Rattle.sl_trace.specs.declared.session.Session.{Session}
use Rattle.sl_trace.specs.WatchdogConnections.{registers, registers_with}
use Rattle.sl_trace.specs.Traces.{Setting, Submitted, Trace, answered_in, mark, new_call, submitted}
use Rattle.sl_trace.specs.declared.effects.Call.{Call}
use Rattle.sl_trace.specs.declared.effects.Entry.{Entry}
use Rattle.sl_trace.specs.declared.effects.JoinStep.TheVariants.{ClaimWrite, DecidingRead, FirstRead, FirstRenewal, VerifyRead, WatchRead}
use Rattle.sl_trace.specs.declared.effects.Purpose.TheVariants.{RequestRead, RequestWrite, Joining, Lease, Leaving, Renewal, SeeRequest, Survey, ValueRead, ValueWrite}
use Rattle.sl_trace.specs.declared.effects.Purpose.{Purpose}
use Rattle.sl_trace.specs.declared.input.Input.TheVariants.{Answer as Told, Exit, Line, Number, Spawned, Wake}
use Rattle.sl_trace.specs.declared.input.Input.{Input}
use Rattle.sl_run_law.proofs.Watchdog.ConnectionNeeded.{WasSo, any_more, by_joining, by_write, covered_marked, covered_stage_by, with_registers}
use Rattle.sl_run_law.proofs.Watchdog.FoundCalls.{the_open_write}
use Rattle.sl_run_law.proofs.Watchdog.ConnectionStands.{not_registered}
use Rattle.sl_run_law.specs.Watchdog.ActingTimes.{registering_entry}
use Rattle.sl_words.proofs.CaseLaws.{false_is_true, none_some, one_value, some_value, true_is_false}
use Rattle.sl_words.proofs.WordLaws.{and_true, or_true}
use Rattle.std.proofs.Common.{ap, inl, inr, refl, sym, ◌∙◌}
use Rattle.std.proofs.lemmas.Bool.{eqb-true}
use Rattle.std.specs.List.{list_any}
use Rattle.std.specs.Prelude.{Bool, List, None, Option, Some, [], cond, false, find, is_some, length, map, slice_get, suc, true, ℕ, ◌&&◌, ◌==◌, ◌∷◌, ◌≡◌, ◌⊎◌}

-- ---- calls that are made with a registering

abbrev pub is_registering : Purpose → Bool
is_registering (Joining j DecidingRead) = true
is_registering (Joining j VerifyRead) = true
is_registering p = false

-- The newest of them.
abbrev pub registering_call : List Submitted → Option Submitted
registering_call ms = find (λ m. is_registering m.call.purpose) ms

-- ---- their entry registers

now_registers : (st : Setting) (e : Entry) (past : Trace) (k : ℕ) (s : Session) (c : Submitted) (p : Purpose) → LawfulDeltaCall st (cut_at k e ∷ past) s c p
    → is_registering p ≡ true → list_any (registers s.lockspace) e.effects.moves ≡ true
now_registers st e past k s c (Joining j DecidingRead) law is =
    any_more (registers_with s.lockspace _) (registers s.lockspace) e.effects.moves (with_registers s.lockspace _) law.registered
now_registers st e past k s c (Joining j VerifyRead) law is =
    any_more (registers_with s.lockspace _) (registers s.lockspace) e.effects.moves (with_registers s.lockspace _) law.registered
now_registers st e past k s c p law is = absurd (false_is_true is)

-- ---- an answer makes no stage covered

-- ---- nor does a call that is made without a registering

new_covered : (st : Setting) (t : Trace) (s : Session) (c : Submitted) (p : Purpose) → LawfulDeltaCall st t s c p
    → stage_of t s ≡ stage_in (calls_of t s) → is_registering p ≡ false → is_covered_stage (stage_for p false) ≡ true → is_covered_stage (stage_in (calls_of t s)) ≡ true
new_covered st t s c (Joining j FirstRead) law stage none h = absurd (false_is_true h)
new_covered st t s c (Joining j WatchRead) law stage none h = absurd (false_is_true h)
new_covered st t s c (Joining j DecidingRead) law stage none h = absurd (true_is_false none)
new_covered st t s c (Joining j ClaimWrite) law stage none h = ap is_covered_stage (sym stage ∙ law.deciding)
new_covered st t s c (Joining j VerifyRead) law stage none h = absurd (true_is_false none)
new_covered st t s c (Joining j FirstRenewal) law stage none h = ap is_covered_stage (sym stage ∙ law.verifying)
new_covered st t s c Renewal law stage none h = absurd (false_is_true h)
new_covered st t s c Survey law stage none h = absurd (false_is_true h)
new_covered st t s c (Leaving j) law stage none h = absurd (false_is_true h)
new_covered st t s c (Lease work step) law stage none h = absurd (false_is_true h)
new_covered st t s c (RequestRead j) law stage none h = absurd (false_is_true h)
new_covered st t s c (RequestWrite j o) law stage none h = absurd (false_is_true h)
new_covered st t s c SeeRequest law stage none h = absurd (false_is_true h)
new_covered st t s c (ValueWrite j) law stage none h = absurd (false_is_true h)
new_covered st t s c (ValueRead j) law stage none h = absurd (false_is_true h)

-- ---- along an entry

abbrev WasCovered : Trace → Session → Trace → Type 0
WasCovered past s t = is_covered_stage (stage_in (calls_of t s)) ≡ true → is_covered_stage (stage_in (calls_of past s)) ≡ true

-- The call was made in this entry, which registers.
abbrev IsNow : Entry → Trace → Session → Submitted → Type 0
IsNow e past s m = (m.at ≡ length past) × (list_any (registers s.lockspace) e.effects.moves ≡ true)

-- It was made before, and the session's stage is not newly covered.
record IsOlder (past : Trace) (s : Session) (t : Trace) (m : Submitted) : Type 0 where
  covered : refused_after t s ≡ None → WasCovered past s t
  before : Submitted
  found : registering_call (calls_of past s) ≡ Some before
  same : before.at ≡ m.at

abbrev Either : Entry → Trace → Session → Trace → Type 0
Either e past s t = (m : Submitted) → registering_call (calls_of t s) ≡ Some m → IsNow e past s m ⊎ IsOlder past s t m

found_mapped : (f : Submitted → Submitted) → ((x : Submitted) → ((f x).call ≡ x.call) × ((f x).at ≡ x.at)) → (ms : List Submitted) (m : Submitted)
    → registering_call (map f ms) ≡ Some m → (b : Submitted) × (registering_call ms ≡ Some b) × (b.at ≡ m.at)
found_mapped f same [] m h = absurd (none_some m h)
found_mapped f same (x ∷ ms) m h = by (is_registering x.call.purpose) refl (λ rest. found_mapped f same ms m rest) where
  by : (t : Bool) → is_registering x.call.purpose ≡ t → (registering_call (map f ms) ≡ Some m → (b : Submitted) × (registering_call ms ≡ Some b) × (b.at ≡ m.at))
      → (b : Submitted) × (cond (is_registering x.call.purpose) (Some x) (registering_call ms) ≡ Some b) × (b.at ≡ m.at)
  by true is rest =
      let test : is_registering (f x).call.purpose ≡ true = ap (λ (c : Call). is_registering c.purpose) (same x).0 ∙ is in
      let one = some_value (f x) m (sym (ap (λ b. cond b (Some (f x)) (registering_call (map f ms))) test) ∙ h) in
      (x, ap (λ b. cond b (Some x) (registering_call ms)) is, sym (same x).1 ∙ ap (λ (y : Submitted). y.at) one)
  by false is rest =
      let test : is_registering (f x).call.purpose ≡ false = ap (λ (c : Call). is_registering c.purpose) (same x).0 ∙ is in
      let r = rest (sym (ap (λ b. cond b (Some (f x)) (registering_call (map f ms))) test) ∙ h) in
      (r.0, ap (λ b. cond b (Some x) (registering_call ms)) is ∙ r.1, r.2)

found_marked : (es : Trace) (e : Entry) (i : Input) (ms : List Submitted) (m : Submitted) → registering_call (mark es e i ms) ≡ Some m
    → (b : Submitted) × (registering_call ms ≡ Some b) × (b.at ≡ m.at)
found_marked es e (Told n a) ms m h =
    found_mapped (answered_in es e n a) (λ x. ((same_answered es e n a x).call, (same_answered es e n a x).at)) ms m h
found_marked es e (Line text) ms m h = (m, h, refl)
found_marked es e (Number text) ms m h = (m, h, refl)
found_marked es e (Exit p) ms m h = (m, h, refl)
found_marked es e (Spawned p ok) ms m h = (m, h, refl)
found_marked es e Wake ms m h = (m, h, refl)

either_first : (e : Entry) (past : Trace) (s : Session) → Either e past s (cut_at 0 e ∷ past)
either_first e past s m h =
    let r = found_marked past (cut_at 0 e) e.input (calls_of past s) m (ap (λ ms. registering_call ms) (sym (mine_marked past e s)) ∙ h) in
    inr (record {
      covered = λ refused is. covered_marked past (cut_at 0 e) e.input (calls_of past s) (ap (λ ms. is_covered_stage (stage_in ms)) (sym (mine_marked past e s)) ∙ is);
      before = r.0;
      found = r.1;
      same = r.2;
    })

either_other : (e : Entry) (past : Trace) (s : Session) (k : ℕ) (m : Submitted) → calls_of (cut_at (suc k) e ∷ past) s ≡ calls_of (cut_at k e ∷ past) s
    → IsNow e past s m ⊎ IsOlder past s (cut_at k e ∷ past) m → IsNow e past s m ⊎ IsOlder past s (cut_at (suc k) e ∷ past) m
either_other e past s k m same (inl now) = inl now
either_other e past s k m same (inr o) =
    inr (record {
      covered = λ refused is. o.covered refused (ap (λ ms. is_covered_stage (stage_in ms)) (sym same) ∙ is);
      before = o.before;
      found = o.found;
      same = o.same;
    })

either_quiet : (st : Setting) (e : Entry) (past : Trace) (s : Session) (k : ℕ) (c : Call) (m : Submitted) → joined_after (e ∷ past) s ≡ None
    → LawfulDeltaCall st (cut_at k e ∷ past) s (new_call (length past) e.reading c) c.purpose → is_registering c.purpose ≡ false
    → calls_of (cut_at (suc k) e ∷ past) s ≡ new_call (length past) e.reading c ∷ calls_of (cut_at k e ∷ past) s
    → IsNow e past s m ⊎ IsOlder past s (cut_at k e ∷ past) m → IsNow e past s m ⊎ IsOlder past s (cut_at (suc k) e ∷ past) m
either_quiet st e past s k c m none law quiet same (inl now) = inl now
either_quiet st e past s k c m none law quiet same (inr o) =
    let t : Trace = cut_at k e ∷ past in
    inr (record {
      covered = λ refused is.
          o.covered refused (new_covered st t s (new_call (length past) e.reading c) c.purpose law
          (open_stage (joined_after t s) (removed_after t s) (refused_after t s) (free_write (calls_of t s)) (stage_in (calls_of t s)) none refused) quiet
          (ap (λ ms. is_covered_stage (stage_in ms)) (sym same) ∙ is));
      before = o.before;
      found = o.found;
      same = o.same;
    })

either_mine : (st : Setting) (e : Entry) (past : Trace) (s : Session) (k : ℕ) (c : Call) → joined_after (e ∷ past) s ≡ None
    → LawfulDeltaCall st (cut_at k e ∷ past) s (new_call (length past) e.reading c) c.purpose
    → calls_of (cut_at (suc k) e ∷ past) s ≡ new_call (length past) e.reading c ∷ calls_of (cut_at k e ∷ past) s
    → (b : Bool) → is_registering c.purpose ≡ b → Either e past s (cut_at k e ∷ past) → Either e past s (cut_at (suc k) e ∷ past)
either_mine st e past s k c none law same true is before m h =
    let one = some_value (new_call (length past) e.reading c) m
    (sym (ap (λ ms. registering_call ms) same ∙ ap (λ b. cond b (Some (new_call (length past) e.reading c)) (registering_call (calls_of (cut_at k e ∷ past) s))) is) ∙ h) in
    inl (ap (λ (x : Submitted). x.at) (sym one), now_registers st e past k s (new_call (length past) e.reading c) c.purpose law is)
either_mine st e past s k c none law same false is before m h =
    either_quiet st e past s k c m none law is same
    (before m (sym (ap (λ ms. registering_call ms) same ∙ ap (λ b. cond b (Some (new_call (length past) e.reading c)) (registering_call (calls_of (cut_at k e ∷ past) s))) is) ∙ h))

either_call : (st : Setting) (e : Entry) (past : Trace) (s : Session) → Orderly st (e ∷ past) → IsSession st (e ∷ past) s → joined_after (e ∷ past) s ≡ None
    → (k : ℕ) (c : Call) → slice_get e.effects.calls k ≡ Some c → (b : Bool) → (c.session == s.number) ≡ b
    → Either e past s (cut_at k e ∷ past) → Either e past s (cut_at (suc k) e ∷ past)
either_call st e past s h its none k c at false other before = λ m found.
    either_other e past s k m (other_next past e s k c at other) (before m (ap (λ ms. registering_call ms) (sym (other_next past e s k c at other)) ∙ found))
either_call st e past s h its none k c at true mine before =
    let number = eqb-true c.session s.number mine in
    let here = is_the_one (session_numbered st (e ∷ past) c.session) s (h.calls.0.owned c (got_inside e.effects.calls k c at))
    (λ x is. one_value x s (session_numbered st (e ∷ past) s.number) (ap (λ n. session_numbered st (e ∷ past) n) (sym number) ∙ is) its) in
    either_mine st e past s k c none (h.delta.0.calls k c s at here) (mine_next past e s k c at mine) (is_registering c.purpose) refl before

either_entry : (st : Setting) (e : Entry) (past : Trace) (s : Session) → Orderly st (e ∷ past) → IsSession st (e ∷ past) s → joined_after (e ∷ past) s ≡ None
    → Either e past s (e ∷ past)
either_entry st e past s h its none =
    to_all (Either e past s) e past (either_first e past s) (λ k c at before. either_call st e past s h its none k c at (c.session == s.number) refl before)

-- ---- whether the connection was needed before

was_so : (st : Setting) (e : Entry) (past : Trace) (s : Session) (m : Submitted) → Orderly st (e ∷ past) → IsSession st (e ∷ past) s → joined_after (e ∷ past) s ≡ None
    → is_covered (e ∷ past) s ≡ true → IsOlder past s (e ∷ past) m → WasSo st past s
was_so st e past s m h its none is o =
    let t : Trace = e ∷ past in
    elim (or_true (is_covered_stage (stage_of t s)) (is_some (refused_after t s) && has_open_write t s) is) as (λ z. WasSo st past s) [
      | inl stage ↦
          let r = covered_stage_by (joined_after t s) (removed_after t s) (refused_after t s) (free_write (calls_of t s)) (stage_in (calls_of t s)) none stage in
          by_joining st e past s h its none r.0 (o.covered r.0 r.1)
      | inr also ↦
          let b = and_true (is_some (refused_after t s)) (has_open_write t s) also in
          let k = some_there (refused_after t s) b.0 in
          let u = the_open_write t s b.1 in
          by_write st e past s k.0 h its none k.1 u (old_or_new (length past) e.reading e.effects.calls (mark past e e.input (submitted past)) u.call u.inside)
    ]

-- ---- whole

abbrev entry_by : Bool → ℕ → Option ℕ → Option ℕ
entry_by b now before = elim b [ true ↦ Some now | false ↦ before ]

registered_by : (st : Setting) (e : Entry) (past : Trace) (s : Session) (m : Submitted) → Orderly st (e ∷ past) → IsSession st (e ∷ past) s → joined_after (e ∷ past) s ≡ None
    → is_covered (e ∷ past) s ≡ true → IsNow e past s m ⊎ IsOlder past s (e ∷ past) m
    → ((b : Submitted) → WasSo st past s → registering_call (calls_of past s) ≡ Some b → registering_entry past s.lockspace ≡ Some b.at)
    → registering_entry (e ∷ past) s.lockspace ≡ Some m.at
registered_by st e past s m h its none is (inl now) rest =
    ap (λ b. entry_by b (length past) (registering_entry past s.lockspace)) now.1 ∙ ap (λ n. Some n) (sym now.0)
registered_by st e past s m h its none is (inr o) rest =
    let was = was_so st e past s m h its none is o in
    let quiet = not_registered st e past s h was.its was.covered is in
    ap (λ b. entry_by b (length past) (registering_entry past s.lockspace)) quiet ∙ rest o.before was o.found ∙ ap (λ n. Some n) o.same

-- A session that isn't joined and needs its connection has it from the entry of its newest such call.
pub registered : (st : Setting) (es : Trace) (s : Session) → Orderly st es → IsSession st es s → joined_after es s ≡ None → is_covered es s ≡ true → (m : Submitted)
    → registering_call (calls_of es s) ≡ Some m → registering_entry es s.lockspace ≡ Some m.at
registered st [] s h its none is m found = absurd (none_some m found)
registered st (e ∷ past) s h its none is m found =
    registered_by st e past s m h its none is (either_entry st e past s h its none m found)
    (λ b was there. registered st past s (orderly-front st (e ∷ []) past h) was.its (joined_before e past s (joined_after past s) refl none) was.covered b there)
