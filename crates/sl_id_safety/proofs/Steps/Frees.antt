-- Whether the free of a session has landed stays through an entry.
use Rattle.sl_run_law.proofs.Course.Daemons.{every_has}
use Rattle.sl_run_law.specs.Course.CallStamps.{IsCourseOf, stamp_in}
use Rattle.sl_run_law.proofs.Course.CallsAreDistinct.{each_distinct}
use Rattle.sl_run_law.proofs.Front.JoinedLists.{contains_append}
use Rattle.sl_id_safety.proofs.State.Frames.{free_landed_by, free_of, landed_as}
use Rattle.sl_id_safety.specs.State.IdStates.{own_courses}
use Rattle.sl_id_safety.proofs.Steps.OwnCalls.{IsFresh, IsKept, IsSilent, Through, closed, closes, kept, knows}
use Rattle.sl_run_law.proofs.Landing.CallLists.{one_call}
use Rattle.sl_run.proofs.LawFacts.{orderly-front}
use Rattle.sl_run.specs.Lawful.{Orderly}
use Rattle.sl_run.specs.LawfulDelta.{LawfulDeltaCall}
use Rattle.sl_run.specs.LawForms.{cut_at}
use Rattle.sl_run_law.proofs.Place.FoundInLists.{partner_of}
use Rattle.sl_words.proofs.Lists.{any_found, find_fails, find_inside, in_map, kept_inside}
use Rattle.sl_run.specs.Runs.{Happening}
use Rattle.sl_run.specs.Safety.{Found, SessionId, free_landed, is_course_of, setting_in, trace_of}
use Rattle.sl_run.specs.Worlds.{Course, Program, Stamp, World, is_landed}
use Rattle.sl_run.specs.declared.header.Header.{Header}
use Rattle.sl_run_law.proofs.Sessions.TraceGrowth.{mine_marked, other_next, to_all}
use Rattle.sl_run_law.proofs.Sessions.CallsAreMade.{WasOpen, old_or_new, same_answered, was_marked}
use Rattle.sl_run_law.proofs.Sessions.CallOwners.{calls_were_lawful}
use Rattle.sl_run_law.proofs.Sessions.EndedAreSilent.{stage_by}
use Rattle.sl_run_law.proofs.Sessions.MarksStay.{marks_stay}
use Rattle.sl_run_law.specs.Sessions.SessionLaws.{IsSession, WasLawful, front_of, made_as}
use Rattle.sl_trace.specs.Sessions.{calls_of, free_write, is_free_purpose, joined_after, refused_after, removed_after, stage_after, stage_in, stage_of}
use Rattle.sl_trace.specs.declared.session.Session.{Session}
use Rattle.sl_trace.specs.declared.stage.Stage.TheVariants.{Looking, Standing}
use Rattle.sl_trace.specs.declared.stage.Stage.{Stage}
use Rattle.sl_trace.specs.Traces.{Setting, Submitted, Trace, answered_in, is_answered_ok, mark, submitted}
use Rattle.sl_trace.specs.declared.effects.Entry.{Entry}
use Rattle.sl_trace.specs.declared.effects.JoinStep.TheVariants.{ClaimWrite, DecidingRead, FirstRead, FirstRenewal, VerifyRead, WatchRead}
use Rattle.sl_trace.specs.declared.effects.JoinStep.{JoinStep}
use Rattle.sl_trace.specs.declared.effects.Purpose.TheVariants.{Joining, Leaving}
use Rattle.sl_trace.specs.declared.effects.Purpose.{Purpose}
use Rattle.sl_trace.specs.declared.input.Answer.{Answer}
use Rattle.sl_trace.specs.declared.input.Input.TheVariants.{Answer as Told, Exit, Line, Number, Spawned, Wake}
use Rattle.sl_trace.specs.declared.input.Input.{Input}
use Rattle.sl_run_law.proofs.Watchdog.FoundCalls.{call_inside, call_owner}
use Rattle.sl_words.proofs.CaseLaws.{false_is_true, is_false, not_both, some_value, true_is_false}
use Rattle.sl_words.proofs.WordLaws.{and_true}
use Rattle.sl_words.specs.Words.{some_is}
use Rattle.std.proofs.Common.{ap, arith, inl, inr, refl, subst, sym, tests, ◌∙◌}
use Rattle.std.specs.List.{list_any}
use Rattle.std.specs.Prelude.{Bool, Contains, List, None, Option, Some, cond, false, length, map, option_map, true, [], ℕ, ◌&&◌, ◌++◌, ◌<◌, ◌==◌, ◌||◌, ◌∷◌, ◌≡◌}

-- ---- a session that has written its free had joined

abbrev pub is_standing : Stage → Bool
is_standing Standing = true
is_standing x = false

step_stage : (step : JoinStep) (b : Bool) → is_standing (stage_after step b) ≡ false
step_stage FirstRead b = refl
step_stage WatchRead b = refl
step_stage DecidingRead b = refl
step_stage ClaimWrite true = refl
step_stage ClaimWrite false = refl
step_stage VerifyRead b = refl
step_stage FirstRenewal b = refl

call_stage : (p : Purpose) (b : Bool) → is_standing (elim p as (λ z. Stage) [ Joining j step ↦ stage_after step b | _ ↦ Looking ]) ≡ false
call_stage (Joining j step) b = step_stage step b
call_stage p b = refl

pub joining_stage : (ms : List Submitted) → is_standing (stage_in ms) ≡ false
joining_stage [] = refl
joining_stage (m ∷ ms) = call_stage m.call.purpose (is_answered_ok m)

standing_joined : (joined removed refused : Option ℕ) (free : Option Submitted) (joining : Stage) → is_standing joining ≡ false
    → stage_by joined removed refused free joining ≡ Standing → (k : ℕ) × (joined ≡ Some k)
standing_joined (Some k) removed refused free joining early h = (k, refl)
standing_joined None removed (Some r) free joining early h = absurd cc
standing_joined None removed None free joining early h = absurd (true_is_false (ap (λ x. is_standing x) (sym h) ∙ early))

free_stands : (st : Setting) (t : Trace) (s : Session) (n : Submitted) (p : Purpose) → LawfulDeltaCall st t s n p → is_free_purpose p ≡ true → stage_of t s ≡ Standing
free_stands st t s n (Leaving j) law is = law.standing
free_stands st t s n p law is = absurd (false_is_true is)

freed_joined : (st : Setting) (es : Trace) (s : Session) (m : Submitted) → Orderly st es → IsSession st es s → free_write (calls_of es s) ≡ Some m
    → (k : ℕ) × (joined_after es s ≡ Some k)
freed_joined st es s m h its free =
    let r = find_inside (λ (x : Submitted). is_free_purpose x.call.purpose) (calls_of es s) m free in
    let own = call_owner es s m r.0 in
    let w : WasLawful st es s m = calls_were_lawful st es s m h its own.0 own.1 in
    let t : Trace = front_of w.made in
    let j = standing_joined (joined_after t s) (removed_after t s) (refused_after t s) (free_write (calls_of t s)) (stage_in (calls_of t s))
    (joining_stage (calls_of t s)) (free_stands st t s (made_as w.made) m.call.purpose w.lawful r.1) in
    (j.0, ap (λ u. joined_after u s) w.made.whole ∙ marks_stay.joined w.made.later (w.made.entry ∷ w.made.past) s j.0 j.1)

-- ---- its free keeps its number

abbrev number_of : Option Submitted → Option ℕ
number_of o = option_map (λ m. m.call.number) o

number_by : (b c : Bool) (x y : Submitted) (o p : Option Submitted) → c ≡ b → x.call ≡ y.call → number_of o ≡ number_of p
    → number_of (cond c (Some x) o) ≡ number_of (cond b (Some y) p)
number_by true c x y o p same call rest = ap (λ t. number_of (cond t (Some x) o)) same ∙ ap (λ k. Some k.number) call
number_by false c x y o p same call rest = ap (λ t. number_of (cond t (Some x) o)) same ∙ rest

number_told : (es : Trace) (e : Entry) (n : ℕ) (a : Answer) (ms : List Submitted) → number_of (free_write (map (answered_in es e n a) ms)) ≡ number_of (free_write ms)
number_told es e n a [] = refl
number_told es e n a (m ∷ ms) =
    let c = (same_answered es e n a m).call in
    number_by (is_free_purpose m.call.purpose) (is_free_purpose (answered_in es e n a m).call.purpose) (answered_in es e n a m) m
    (free_write (map (answered_in es e n a) ms)) (free_write ms) (ap (λ k. is_free_purpose k.purpose) c) c (number_told es e n a ms)

number_marked : (es : Trace) (e : Entry) (i : Input) (ms : List Submitted) → number_of (free_write (mark es e i ms)) ≡ number_of (free_write ms)
number_marked es e (Told n a) ms = number_told es e n a ms
number_marked es e (Line text) ms = refl
number_marked es e (Number text) ms = refl
number_marked es e (Exit p) ms = refl
number_marked es e (Spawned p ok) ms = refl
number_marked es e Wake ms = refl

silent_calls : (e : Entry) (past : Trace) (s : Session) → IsSilent e s → calls_of (e ∷ past) s ≡ mark past (cut_at 0 e) e.input (calls_of past s)
silent_calls e past s silent =
    to_all (λ t. calls_of t s ≡ calls_of (cut_at 0 e ∷ past) s) e past refl (λ j c at old. other_next past e s j c at (silent j c at) ∙ old)
    ∙ mine_marked past e s

silent_number : (e : Entry) (past : Trace) (s : Session) → IsSilent e s → number_of (free_write (calls_of (e ∷ past) s)) ≡ number_of (free_write (calls_of past s))
silent_number e past s silent =
    ap (λ ms. number_of (free_write ms)) (silent_calls e past s silent) ∙ number_marked past (cut_at 0 e) e.input (calls_of past s)

-- ---- what has landed

abbrev landed_of : List Course → Option ℕ → Bool
landed_of cs o = some_is (λ n. list_any (landed_as n) cs) o

by_number : (cs : List Course) (o : Option Submitted) → free_landed_by cs o ≡ landed_of cs (number_of o)
by_number cs None = refl
by_number cs (Some m) = refl

any_closed : (n : ℕ) (f : Course → Course) (cs : List Course) → ((c : Course) → IsKept c (f c)) → list_any (landed_as n) (map f cs) ≡ list_any (landed_as n) cs
any_closed n f [] same = refl
any_closed n f (c ∷ cs) same =
    let k = same c in
    ap (λ y. y.number == n && is_landed (f c).fate || list_any (landed_as n) (map f cs)) k.call
    ∙ ap (λ y. c.call.number == n && is_landed y || list_any (landed_as n) (map f cs)) k.fate
    ∙ ap (λ b. landed_as n c || b) (any_closed n f cs same)

of_closed : (f : Course → Course) (cs : List Course) → ((c : Course) → IsKept c (f c)) → (o : Option ℕ) → landed_of (map f cs) o ≡ landed_of cs o
of_closed f cs same None = refl
of_closed f cs same (Some n) = any_closed n f cs same

-- Where the entry makes no call of it.
pub silent_calls_own : {p : Program} {h : Header} {xs : List Happening} {w : World} {i : SessionId} {f g : Found} (t : Through p h xs w i f g) → IsSilent t.entry f.session
    → own_courses i g.machine ≡ map (closes t) (own_courses i f.machine)
silent_calls_own {i = i} {f = f} t silent = t.calls ∙ ap (λ cs. cs ++ map (closed t.stamp t.entry.input) (own_courses i f.machine)) (t.none_new silent)

pub trace_calls : {p : Program} {h : Header} {xs : List Happening} {w : World} {i : SessionId} {f g : Found} (t : Through p h xs w i f g)
    → calls_of (trace_of g) g.session ≡ calls_of (t.entry ∷ f.daemon.trace) f.session
trace_calls {f = f} {g = g} t = ap (λ es. calls_of es g.session) t.trace ∙ ap (λ s. calls_of (t.entry ∷ f.daemon.trace) s) t.session

free_silent : {p : Program} {h : Header} {xs : List Happening} {w : World} {i : SessionId} {f g : Found} (t : Through p h xs w i f g) → IsSilent t.entry f.session
    → free_landed i g ≡ free_landed i f
free_silent {i = i} {f = f} {g = g} t silent =
    free_of i g ∙ by_number (own_courses i g.machine) (free_write (calls_of (trace_of g) g.session))
    ∙ ap (λ cs. landed_of cs (number_of (free_write (calls_of (trace_of g) g.session)))) (silent_calls_own t silent)
    ∙ of_closed (closed t.stamp t.entry.input) (own_courses i f.machine) (kept t.stamp t.entry.input) (number_of (free_write (calls_of (trace_of g) g.session)))
    ∙ ap (λ ms. landed_of (own_courses i f.machine) (number_of (free_write ms))) (trace_calls t)
    ∙ ap (λ o. landed_of (own_courses i f.machine) o) (silent_number t.entry f.daemon.trace f.session silent)
    ∙ sym (by_number (own_courses i f.machine) (free_write (calls_of f.daemon.trace f.session))) ∙ sym (free_of i f)

-- ---- a free that the entry makes has not landed

pub not_less : (a b : Stamp) → a ≡ b → a.step < b.step → ⊥
not_less a b e lt = let same : a.step ≡ b.step = ap (λ (s : Stamp). s.step) e in omega (arith, same, lt)

-- A call of the session that was made in the entry has not landed.
fresh_flies : {p : Program} {h : Header} {xs : List Happening} {w : World} {i : SessionId} {f g : Found} (t : Through p h xs w i f g) (c : Course)
    → Contains (own_courses i g.machine) c → c.made ≡ t.stamp → is_landed c.fate ≡ false
fresh_flies {i = i} {f = f} t c own now =
    let k : Course → Course = closed t.stamp t.entry.input in
    elim (contains_append t.newer (map k (own_courses i f.machine)) c (subst (λ cs. Contains cs c) t.calls own)) as (λ z. is_landed c.fate ≡ false) [
      | inl new ↦ ap (λ x. is_landed x) (every_has (IsFresh t.stamp) t.newer c t.each new).fate
      | inr old ↦ let r = in_map k (own_courses i f.machine) c old in
          let keep : IsKept r.0 (k r.0) = kept t.stamp t.entry.input r.0 in
          absurd (not_less r.0.made t.stamp (sym keep.made ∙ ap (λ x. x.made) r.2 ∙ now) (t.older r.0 r.1))
    ]

stamp_first : (s : Stamp) (ss : List Stamp) (k : ℕ) (x : Stamp) → k ≡ length ss → stamp_in (s ∷ ss) k ≡ Some x → x ≡ s
stamp_first s ss k x is at =
    some_value x s (sym at ∙ ap (λ b. elim b as (λ z. Option Stamp) [ true ↦ Some s | false ↦ stamp_in ss k ]) (is_number k (length ss) is))
  where
    is_number : (m n : ℕ) → m ≡ n → (m == n) ≡ true
    is_number m n h = grind (arith, tests)

-- A free of the entry.
new_free : {p : Program} {h : Header} {xs : List Happening} {w : World} {i : SessionId} {f g : Found} (t : Through p h xs w i f g)
    → free_write (calls_of f.daemon.trace f.session) ≡ None → (m : Submitted) → free_write (calls_of (trace_of g) g.session) ≡ Some m → m.at ≡ length f.daemon.trace
new_free {f = f} {g = g} t none m free =
    let r = find_inside (λ (x : Submitted). is_free_purpose x.call.purpose) (calls_of (t.entry ∷ f.daemon.trace) f.session) m
    (ap (λ ms. free_write ms) (sym (trace_calls t)) ∙ free) in
    let own = call_owner (t.entry ∷ f.daemon.trace) f.session m r.0 in
    elim (old_or_new (length f.daemon.trace) t.entry.reading t.entry.effects.calls (mark f.daemon.trace t.entry t.entry.input (submitted f.daemon.trace)) m own.0)
    as (λ z. m.at ≡ length f.daemon.trace) [
      | inr new ↦ new.place
      | inl old ↦ let o : WasOpen (submitted f.daemon.trace) m = was_marked f.daemon.trace t.entry t.entry.input (submitted f.daemon.trace) m old in
          absurd (not_both (is_free_purpose o.before.call.purpose) (ap (λ c. is_free_purpose c.purpose) (sym o.same.call) ∙ r.1)
          (find_fails (λ (x : Submitted). is_free_purpose x.call.purpose) (calls_of f.daemon.trace f.session) o.before none
          (call_inside f.daemon.trace f.session o.before o.inside (ap (λ c. c.session) (sym o.same.call) ∙ own.1))))
    ]

new_flies : {p : Program} {h : Header} {xs : List Happening} {w : World} {i : SessionId} {f g : Found} (t : Through p h xs w i f g)
    → free_write (calls_of f.daemon.trace f.session) ≡ None → (m : Submitted) → free_write (calls_of (trace_of g) g.session) ≡ Some m
    → list_any (landed_as m.call.number) (own_courses i g.machine) ≡ false
new_flies {p = p} {h = h} {xs = xs} {i = i} {f = f} {g = g} t none m free =
    is_false (list_any (landed_as m.call.number) (own_courses i g.machine)) (λ any.
    let k = knows t in
    let r = find_inside (λ (x : Submitted). is_free_purpose x.call.purpose) (calls_of (trace_of g) g.session) m free in
    let c = partner_of (IsCourseOf g.daemon) (own_courses i g.machine) (calls_of (trace_of g) g.session) m k.pairs r.0 in
    let now : c.0.made ≡ t.stamp =
    stamp_first t.stamp f.daemon.stamps m.at c.0.made (new_free t none m free ∙ sym t.even)
    (ap (λ ss. stamp_in ss m.at) (sym t.stamps) ∙ c.2.made) in
    let d = any_found (landed_as m.call.number) (own_courses i g.machine) any in
    let q = and_true (d.0.call.number == m.call.number) (is_landed d.0.fate) d.2 in
    let one : d.0 ≡ c.0 =
    one_call g.machine.calls d.0 c.0 (each_distinct p h xs t.run i.machine g.machine k.there.at) (kept_inside (is_course_of i) g.machine.calls d.0 d.1).0
    (kept_inside (is_course_of i) g.machine.calls c.0 c.1).0 (ap (λ y. d.0.call.number == y.number) (sym c.2.call) ∙ q.0) in
    not_both (is_landed c.0.fate) (ap (λ y. is_landed y.fate) (sym one) ∙ q.1) (fresh_flies t c.0 c.1 now))

free_by_cases : {p : Program} {h : Header} {xs : List Happening} {w : World} {i : SessionId} {f g : Found} (t : Through p h xs w i f g)
    → free_write (calls_of f.daemon.trace f.session) ≡ None → (o : Option Submitted) → free_write (calls_of (trace_of g) g.session) ≡ o
    → free_landed_by (own_courses i g.machine) o ≡ false
free_by_cases t none None is = refl
free_by_cases t none (Some m) is = new_flies t none m is

free_stays_by : {p : Program} {h : Header} {xs : List Happening} {w : World} {i : SessionId} {f g : Found} (t : Through p h xs w i f g)
    → (o : Option Submitted) → free_write (calls_of f.daemon.trace f.session) ≡ o → free_landed i g ≡ free_landed i f
free_stays_by {i = i} {f = f} {g = g} t None is =
    free_of i g ∙ free_by_cases t is (free_write (calls_of (trace_of g) g.session)) refl
    ∙ sym (ap (λ o. free_landed_by (own_courses i f.machine) o) is) ∙ sym (free_of i f)
free_stays_by {f = f} {g = g} t (Some m) is =
    let lawful : Orderly f.daemon.setting (t.entry ∷ f.daemon.trace) =
    subst (λ st. Orderly st (t.entry ∷ f.daemon.trace)) t.setting (subst (λ es. Orderly (setting_in g) es) t.trace (knows t).lawful) in
    let j = freed_joined f.daemon.setting f.daemon.trace f.session m
    (orderly-front f.daemon.setting (t.entry ∷ []) f.daemon.trace lawful) t.had is in
    free_silent t (t.freed j.0 m j.1 is)

-- So whether it has landed stays.
pub free_stays : {p : Program} {h : Header} {xs : List Happening} {w : World} {i : SessionId} {f g : Found} (t : Through p h xs w i f g)
    → free_landed i g ≡ free_landed i f
free_stays {f = f} t = free_stays_by t (free_write (calls_of f.daemon.trace f.session)) refl
