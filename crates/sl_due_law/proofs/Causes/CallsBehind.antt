-- What stands behind the calls of requests and values, and the first looks of joinings, stays so with one more entry.
use Rattle.sl_due_law.proofs.Causes.EntryMakings.{step_of}
use Rattle.sl_due_facts.proofs.Jobs.JobsAreNumbered.{command_stays}
use Rattle.sl_due_facts.proofs.Jobs.SessionsHaveJobs.{line_command}
use Rattle.sl_due_law.proofs.LawfulTraces.CallsAreLawful.{new_inside}
use Rattle.sl_due_law.specs.Causes.CauseFacts.{CauseFacts, StandsBehind, StandsBehindRequest}
use Rattle.sl_due_law.specs.Causes.Makings.{AskedBy, LookedSoFar, MadeFor, MadeSoFar, SetBy}
use Rattle.sl_due_facts.specs.Facts.HeardCall.{heard_by}
use Rattle.sl_due_law.specs.LawfulTraces.CarriedFacts.{Holds}
use Rattle.sl_trace.specs.Jobs.{command_numbered}
use Rattle.sl_trace.specs.Leases.{value_of_record}
use Rattle.sl_words.proofs.Lists.{contains_map, got_inside, in_map, kept}
use Rattle.sl_words.proofs.Numbers.{number_itself}
use Rattle.sl_words.proofs.Options.{some_of, then_value}
use Rattle.sl_trace.specs.Sessions.{calls_of, is_call_of, is_join_call, sessions}
use Rattle.sl_trace.specs.declared.session.Session.{Session}
use Rattle.sl_trace.specs.Traces.{Answered, Setting, Submitted, Trace, answer_of, answered_in, bytes_given, gave, job_of, mark, new_call, record_of, submitted}
use Rattle.sl_trace.specs.declared.command.Command.{Command}
use Rattle.sl_trace.specs.declared.command.Command.TheVariants.{Request, SetLvb}
use Rattle.sl_trace.specs.declared.effects.Call.{Call}
use Rattle.sl_trace.specs.declared.effects.Entry.{Entry}
use Rattle.sl_trace.specs.declared.effects.JoinStep.TheVariants.{FirstRead}
use Rattle.sl_trace.specs.declared.effects.Purpose.{Purpose}
use Rattle.sl_trace.specs.declared.effects.Purpose.TheVariants.{Joining, Lease, Leaving, Renewal, RequestRead, RequestWrite, SeeRequest, Survey, ValueRead, ValueWrite}
use Rattle.sl_trace.specs.declared.input.Answer.TheVariants.{Read}
use Rattle.sl_trace.specs.declared.input.Input.{Input}
use Rattle.sl_trace.specs.declared.input.Input.TheVariants.{Answer as Told, Exit, Line, Number, Spawned, Wake}
use Rattle.sl_run_law.proofs.Sessions.CallsAreMade.{IsNewCall, answers_stay, old_or_new, old_stays, same_answered, was_marked}
use Rattle.sl_words.proofs.CaseLaws.{false_is_true, none_some, one_value, some_value, true_is_false}
use Rattle.std.proofs.Common.{ap, inl, inr, refl, subst, sym, ◌∙◌}
use Rattle.std.specs.Option.{option_or}
use Rattle.std.specs.Prelude.{Bool, Contains, IsTrue, List, None, Option, Some, [], false, length, option_and_then, true, ℕ, ◌==◌, ◌∷◌, ◌≡◌, ◌⊎◌}

-- ---- calls of an entry and before

-- A call whose answer was heard has one.
heard_none : (past : Trace) (e : Entry) (i : Input) (ms : List Submitted) (m : Submitted) → Contains (mark past e i ms) m → heard_by i ≡ Some m.call.number → m.answer ≡ None → ⊥
heard_none past e (Told n a) ms m there heard none = by (v.0.call.number == n) mine (ap (λ (d : Submitted). d.answer) v.2 ∙ none) where
  v : (d : Submitted) × Contains ms d × (answered_in past e n a d ≡ m)
  v = in_map (answered_in past e n a) ms m there

  number : n ≡ v.0.call.number
  number = some_value n m.call.number heard ∙ (ap (λ (d : Submitted). d.call.number) (sym v.2) ∙ ap (λ (c : Call). c.number) (same_answered past e n a v.0).call)

  mine : (v.0.call.number == n) ≡ true
  mine = ap (λ k. v.0.call.number == k) number ∙ number_itself v.0.call.number

  never : (o : Option Answered) (b : Answered) → option_or o (Some b) ≡ None → ⊥
  never (Some c) b is = none_some c (sym is)
  never None b is = none_some b (sym is)

  by : (b : Bool) → b ≡ true → (let d : Submitted = elim b as (λ z. Submitted) [ false ↦ v.0 | true ↦ record v.0 { answer = option_or v.0.answer (Some (answer_of past e a v.0.call)) } ] in d.answer ≡ None) → ⊥
  by false is unmet = false_is_true is
  by true is unmet = never v.0.answer (answer_of past e a v.0.call) unmet
heard_none past e (Line text) ms m there heard none = none_some m.call.number heard
heard_none past e (Number text) ms m there heard none = none_some m.call.number heard
heard_none past e (Exit p) ms m there heard none = none_some m.call.number heard
heard_none past e (Spawned p ok) ms m there heard none = none_some m.call.number heard
heard_none past e Wake ms m there heard none = none_some m.call.number heard

-- A call of the trace is as it was but for an answer that the entry brings, or it is new.
pub data Came (past : Trace) (e : Entry) (m : Submitted) : Type 0 where
  Old_call : (d : Submitted) → Contains (submitted past) d → d.call ≡ m.call → (m.answer ≡ None → d.answer ≡ None) → (heard_by e.input ≡ Some m.call.number → m.answer ≡ None → ⊥) → Came past e m
  New_one : Contains e.effects.calls m.call → m.answer ≡ None → Came past e m

pub came : (past : Trace) (e : Entry) (m : Submitted) → Contains (submitted (e ∷ past)) m → Came past e m
came past e m there = by (old_or_new (length past) e.reading e.effects.calls (mark past e e.input (submitted past)) m there) where
  by : Contains (mark past e e.input (submitted past)) m ⊎ IsNewCall (length past) e.reading e.effects.calls m → Came past e m
  by (inl old) =
      let w = was_marked past e e.input (submitted past) m old in
      Old_call w.before w.inside (sym w.same.call) w.unmet (λ heard none. heard_none past e e.input (submitted past) m old heard none)
  by (inr new) = New_one (got_inside e.effects.calls new.index m.call new.call) new.unmet

-- A call is still there.
still_there : (past : Trace) (e : Entry) (i : Input) (ms : List Submitted) (m : Submitted) → Contains ms m → (n : Submitted) × Contains (mark past e i ms) n × (n.call ≡ m.call)
still_there past e (Told n a) ms m there = (answered_in past e n a m, contains_map (answered_in past e n a) ms m there, (same_answered past e n a m).call)
still_there past e (Line text) ms m there = (m, there, refl)
still_there past e (Number text) ms m there = (m, there, refl)
still_there past e (Exit p) ms m there = (m, there, refl)
still_there past e (Spawned p ok) ms m there = (m, there, refl)
still_there past e Wake ms m there = (m, there, refl)

pub call_stays : (past : Trace) (e : Entry) (m : Submitted) → Contains (submitted past) m → (n : Submitted) × Contains (submitted (e ∷ past)) n × (n.call ≡ m.call)
call_stays past e m there =
    let s = still_there past e e.input (submitted past) m there in (s.0, old_stays (length past) e.reading e.effects.calls (mark past e e.input (submitted past)) s.0 s.1, s.2)

pub call_comes : (past : Trace) (e : Entry) (c : Call) → Contains e.effects.calls c → Contains (submitted (e ∷ past)) (new_call (length past) e.reading c)
call_comes past e c there = new_inside (length past) e.reading e.effects.calls (mark past e e.input (submitted past)) c there

-- What a read gave, it has given.
pub given_stays : (past : Trace) (e : Entry) (m : Submitted) (bytes : List ℕ) → Contains (submitted past) m → gave m ≡ Some bytes → Contains (submitted (e ∷ past)) m
given_stays past e m bytes there given = let v = then_value (λ (a : Answered). bytes_given a.answer) m.answer bytes given in answers_stay (e ∷ []) past m v.0 there v.1

-- A read that the entry answers has given the bytes.
told_read : (past : Trace) (e : Entry) (m : Submitted) (bytes : List ℕ) → Contains (submitted past) m → m.answer ≡ None → e.input ≡ Told m.call.number (Read bytes)
    → (n : Submitted) × Contains (submitted (e ∷ past)) n × (n.call ≡ m.call) × (gave n ≡ Some bytes)
told_read past e m bytes there none input = (
  told,
  old_stays (length past) e.reading e.effects.calls (mark past e e.input (submitted past)) told
      (subst (λ i. Contains (mark past e i (submitted past)) told) (sym input) (contains_map (answered_in past e m.call.number (Read bytes)) (submitted past) m there)),
  (same_answered past e m.call.number (Read bytes) m).call,
  given (m.call.number == m.call.number) (number_itself m.call.number),
) where
  told : Submitted
  told = answered_in past e m.call.number (Read bytes) m

  given : (b : Bool) → b ≡ true → gave (elim b as (λ z. Submitted) [ false ↦ m | true ↦ record m { answer = option_or m.answer (Some (answer_of past e (Read bytes) m.call)) } ]) ≡ Some bytes
  given false is = absurd (false_is_true is)
  given true is = ap (λ o. option_and_then (λ (a : Answered). bytes_given a.answer) (option_or o (Some (answer_of past e (Read bytes) m.call)))) none

-- ---- first looks

pub looked_more : (st : Setting) (past : Trace) (e : Entry) → LookedSoFar (step_of st past e) → (s : Session) (j : ℕ) → Contains (sessions st (e ∷ past)) s → s.job ≡ Some j
    → (m : Submitted) × Contains (calls_of (e ∷ past) s) m × IsTrue (is_join_call FirstRead m.call.purpose)
looked_more st past e h s j there its = to (h s j there its) where
  to : (c : Call) × (Contains e.effects.calls c ⊎ ((m : Submitted) × Contains (submitted past) m × (m.call ≡ c))) × (c.session ≡ s.number) × IsTrue (is_join_call FirstRead c.purpose)
      → (m : Submitted) × Contains (calls_of (e ∷ past) s) m × IsTrue (is_join_call FirstRead m.call.purpose)
  to f = by f.1 where
    found : (n : Submitted) → Contains (submitted (e ∷ past)) n → n.call ≡ f.0 → (m : Submitted) × Contains (calls_of (e ∷ past) s) m × IsTrue (is_join_call FirstRead m.call.purpose)
    found n inside same = (
      n,
      kept (is_call_of s) (submitted (e ∷ past)) n (ap (λ (c : Call). c.session == s.number) same ∙ (ap (λ k. k == s.number) f.2 ∙ number_itself s.number)) inside,
      ap (λ (c : Call). is_join_call FirstRead c.purpose) same ∙ f.3,
    )

    by : Contains e.effects.calls f.0 ⊎ ((m : Submitted) × Contains (submitted past) m × (m.call ≡ f.0)) → (m : Submitted) × Contains (calls_of (e ∷ past) s) m × IsTrue (is_join_call FirstRead m.call.purpose)
    by (inl new) = found (new_call (length past) e.reading f.0) (call_comes past e f.0 new) refl
    by (inr old) = let n = call_stays past e old.0 old.1 in found n.0 n.1 (n.2 ∙ old.2)

-- ---- requests and values

request_stays : (st : Setting) (past : Trace) (e : Entry) (d m : Submitted) (j asked force : ℕ) → d.call ≡ m.call → StandsBehindRequest st past d j asked force → StandsBehindRequest st (e ∷ past) m j asked force
request_stays st past e d m j asked force same h =
    let r = h.0 in let q = h.1 in (
      (r.0, r.1, given_stays past e r.0 r.1 r.2 r.4, r.3, r.4, r.5),
      (q.0, ap (λ (c : Call). record_of c.op) (sym same) ∙ q.1, q.2, q.3),
    )

behind_stays : (st : Setting) (past : Trace) (e : Entry) (d m : Submitted) (c : Command) (p : Purpose) → d.call ≡ m.call → StandsBehind st past d c p → StandsBehind st (e ∷ past) m c p
behind_stays st past e d m (Request r asked force) (RequestWrite j owner) same h = request_stays st past e d m j asked force same h
behind_stays st past e d m (SetLvb r p bytes) (ValueWrite j) same h = (h.0, ap (λ (k : Call). option_and_then value_of_record (record_of k.op)) (sym same) ∙ h.1, h.2)
behind_stays st past e d m c p same h = tt

-- Whether something stands behind a call of this purpose.
abbrev is_behind : Purpose → Bool
is_behind (RequestWrite j owner) = true
is_behind (ValueWrite j) = true
is_behind p = false

none_behind : (st : Setting) (t : Trace) (m : Submitted) (c : Command) (p : Purpose) → is_behind p ≡ false → StandsBehind st t m c p
none_behind st t m (Request r asked force) (RequestWrite j owner) none = absurd (true_is_false none)
none_behind st t m (SetLvb r p bytes) (ValueWrite j) none = absurd (true_is_false none)
none_behind st t m c p none = tt

pub behind_more : (st : Setting) (past : Trace) (e : Entry) → Holds st past → CauseFacts st past → MadeSoFar (step_of st past e) → (m : Submitted) (j : ℕ) (c : Command) → Contains (submitted (e ∷ past)) m → job_of m.call.purpose ≡ Some j
    → command_numbered st (e ∷ past) j ≡ Some c → StandsBehind st (e ∷ past) m c m.call.purpose
behind_more st past e h w made m j c there of reads = by (came past e m there) where
  one : (d : Command) → command_numbered st (e ∷ past) j ≡ Some d → d ≡ c
  one d is = one_value d c (command_numbered st (e ∷ past) j) is reads

  asked : (i : ℕ) (owner : Option ℕ) → AskedBy st past e.input m.call.op i → i ≡ j → StandsBehind st (e ∷ past) m c (RequestWrite i owner)
  asked i owner a same =
      let its : Request a.resource a.asked a.force ≡ c = one (Request a.resource a.asked a.force) (subst (λ n. command_numbered st (e ∷ past) n ≡ Some (Request a.resource a.asked a.force)) same (command_stays st e past i (Request a.resource a.asked a.force) a.command)) in
      let r = told_read past e a.read a.bytes a.there a.opens a.input in
      subst (λ d. StandsBehind st (e ∷ past) m d (RequestWrite i owner)) its
      ((r.0, a.bytes, r.1, ap (λ (k : Call). k.purpose) r.2 ∙ a.for, r.3, a.accepted), (a.written, a.writes.0, a.writes.1, a.writes.2))

  set : (i : ℕ) → SetBy st past e.input m.call.op i → i ≡ j → StandsBehind st (e ∷ past) m c (ValueWrite i)
  set i b same =
      let its : SetLvb b.resource b.process b.value.bytes ≡ c =
      one (SetLvb b.resource b.process b.value.bytes)
      (subst (λ n. command_numbered st (e ∷ past) n ≡ Some (SetLvb b.resource b.process b.value.bytes)) (sym b.own ∙ same) (line_command st past e b.text (SetLvb b.resource b.process b.value.bytes) b.line b.says)) in
      subst (λ d. StandsBehind st (e ∷ past) m d (ValueWrite i)) its (b.value, ap (λ o. option_and_then value_of_record o) b.writes, refl)

  by_purpose : (p : Purpose) → MadeFor st past e.input e.effects.grants m.call.op p → job_of p ≡ Some j → StandsBehind st (e ∷ past) m c p
  by_purpose (RequestWrite i owner) a its = asked i owner a (some_value i j its)
  by_purpose (ValueWrite i) b its = set i b (some_value i j its)
  by_purpose (Joining i step) a its = none_behind st (e ∷ past) m c (Joining i step) refl
  by_purpose Renewal a its = none_behind st (e ∷ past) m c Renewal refl
  by_purpose Survey a its = none_behind st (e ∷ past) m c Survey refl
  by_purpose (Leaving i) a its = none_behind st (e ∷ past) m c (Leaving i) refl
  by_purpose (Lease work step) a its = none_behind st (e ∷ past) m c (Lease work step) refl
  by_purpose (RequestRead i) a its = none_behind st (e ∷ past) m c (RequestRead i) refl
  by_purpose SeeRequest a its = none_behind st (e ∷ past) m c SeeRequest refl
  by_purpose (ValueRead i) a its = none_behind st (e ∷ past) m c (ValueRead i) refl

  by : Came past e m → StandsBehind st (e ∷ past) m c m.call.purpose
  by (Old_call d inside same unmet heard) =
      let its : job_of d.call.purpose ≡ Some j = ap (λ (k : Call). job_of k.purpose) same ∙ of in
      let v = some_of (command_numbered st past j) (h.whole.facts.jobs.called d j inside its) in
      let old : command_numbered st past j ≡ Some c = v.1 ∙ ap (λ k. Some k) (one v.0 (command_stays st e past j v.0 v.1)) in
      subst (λ (k : Call). StandsBehind st (e ∷ past) m c k.purpose) same (behind_stays st past e d m c d.call.purpose same (w.behind d j c inside its old))
  by (New_one new none) = by_purpose m.call.purpose (made.calls m.call new) of
