-- What an entry makes of the calls of a session of the daemon that takes it: each stays, or is answered, and new ones stand in front.
use Rattle.sl_run_law.proofs.Course.PairwiseLists.{every_filtered}
use Rattle.sl_run_law.proofs.Front.JoinedLists.{contains_right}
use Rattle.sl_id_safety.proofs.State.TraceBridge.{IsKnown, known}
use Rattle.sl_id_safety.proofs.State.FindingFrames.{find_passes, own_mapped}
use Rattle.sl_id_safety.proofs.State.CallLaws.{own_call}
use Rattle.sl_id_safety.proofs.State.JoiningCallOrder.{rank_at}
use Rattle.sl_id_safety.proofs.State.SessionFacts.{grounds}
use Rattle.sl_id_safety.proofs.State.JoiningSteps.{only}
use Rattle.sl_id_safety.specs.State.IdStates.{join_course, own_courses, runs_still}
use Rattle.sl_id_safety.proofs.Steps.StepFrames.{IsNewCourse, step_submits}
use Rattle.sl_words.proofs.Lists.{contains_map}
use Rattle.sl_run.specs.EventChanges.{after_step, close_answered}
use Rattle.sl_run.specs.Runs.{Happening}
use Rattle.sl_run.specs.Safety.{Found, IsSession, LawfulRun, SessionId, is_course_of, was_reset, world_at}
use Rattle.sl_run.specs.Worlds.{Course, Daemon, In_flight, Machine, Program, Sampling, Stamp, World}
use Rattle.sl_run.specs.declared.header.Header.{Header}
use Rattle.sl_run_law.proofs.CourseLists.{changed_if}
use Rattle.sl_run_law.proofs.CoursesGoOn.{told}
use Rattle.sl_run_law.specs.FatesStay.{Every}
use Rattle.sl_trace.specs.Sessions.{calls_of, ended_after, free_write, is_join_call, joined_after, session_numbered}
use Rattle.sl_trace.specs.declared.session.Session.{Session}
use Rattle.sl_trace.specs.Traces.{Submitted, is_ok_answer}
use Rattle.sl_trace.specs.declared.effects.Call.{Call}
use Rattle.sl_trace.specs.declared.effects.Effects.{Effects}
use Rattle.sl_trace.specs.declared.effects.Entry.{Entry}
use Rattle.sl_trace.specs.declared.effects.JoinStep.{JoinStep}
use Rattle.sl_trace.specs.declared.input.Input.TheVariants.{Answer as Told, Exit, Line, Number, Spawned, Wake}
use Rattle.sl_trace.specs.declared.input.Input.{Input}
use Rattle.sl_words.proofs.CaseLaws.{none_some, some_value}
use Rattle.std.proofs.Common.{ap, refl, subst, sym, ◌∙◌}
use Rattle.std.proofs.lemmas.List.Elements.{filter-append}
use Rattle.std.specs.Prelude.{Bool, Contains, List, None, Option, Some, cond, false, filter, find, length, map, slice_get, true, [], ℕ, ◌&&◌, ◌++◌, ◌==◌, ◌<◌, ◌∷◌, ◌≡◌}

-- ---- one call

-- A call that the entry makes.
pub record IsFresh (now : Stamp) (c : Course) : Type 0 where
  pub made : c.made ≡ now
  pub samples : c.samples ≡ []
  pub fate : c.fate ≡ In_flight
  pub answered : c.answered ≡ None

pub fresh_of : (now : Stamp) (number : ℕ) (calls : List Call) (c : Course) → IsNewCourse now number calls c → IsFresh now c
fresh_of now number calls c n =
    record { made = ap (λ x. x.made) n.is; samples = ap (λ x. x.samples) n.is; fate = ap (λ x. x.fate) n.is; answered = ap (λ x. x.answered) n.is }

-- A call that was there, as the entry leaves it.
abbrev pub closed : Stamp → Input → Course → Course
closed now (Told n y) c = changed_if (c.call.number == n) (told now (is_ok_answer y)) c
closed now (Line text) c = c
closed now (Number text) c = c
closed now Wake c = c
closed now (Exit p) c = c
closed now (Spawned p ok) c = c

-- What stays of it.
pub record IsKept (c x : Course) : Type 0 where
  pub call : x.call ≡ c.call
  pub daemon : x.daemon ≡ c.daemon
  pub made : x.made ≡ c.made
  pub sampled : x.sampled ≡ c.sampled
  pub samples : x.samples ≡ c.samples
  pub fate : x.fate ≡ c.fate
  pub waits : x.answered ≡ None → x ≡ c

kept_same : (c : Course) → IsKept c c
kept_same c = record { call = refl; daemon = refl; made = refl; sampled = refl; samples = refl; fate = refl; waits = λ h. refl }

kept_if : (b : Bool) (now : Stamp) (ok : Bool) (c : Course) → IsKept c (changed_if b (told now ok) c)
kept_if true now ok c =
    record {
      call = refl;
      daemon = refl;
      made = refl;
      sampled = refl;
      samples = refl;
      fate = refl;
      waits = λ h. absurd (none_some now (sym h));
    }
kept_if false now ok c = kept_same c

pub kept : (now : Stamp) (j : Input) (c : Course) → IsKept c (closed now j c)
kept now (Told n y) c = kept_if (c.call.number == n) now (is_ok_answer y) c
kept now (Line text) c = kept_same c
kept now (Number text) c = kept_same c
kept now Wake c = kept_same c
kept now (Exit p) c = kept_same c
kept now (Spawned p ok) c = kept_same c

-- ---- all of them

map_still : (f : Course → Course) (cs : List Course) → ((c : Course) → f c ≡ c) → map f cs ≡ cs
map_still f [] h = refl
map_still f (c ∷ cs) h = ap (λ x. x ∷ map f cs) (h c) ∙ ap (λ xs. c ∷ xs) (map_still f cs h)

closed_all : (now : Stamp) (j : Input) (a : Machine) → (close_answered now j a).calls ≡ map (closed now j) a.calls
closed_all now (Told n y) a = refl
closed_all now (Line text) a = sym (map_still (closed now (Line text)) a.calls (λ c. refl))
closed_all now (Number text) a = sym (map_still (closed now (Number text)) a.calls (λ c. refl))
closed_all now Wake a = sym (map_still (closed now Wake) a.calls (λ c. refl))
closed_all now (Exit p) a = sym (map_still (closed now (Exit p)) a.calls (λ c. refl))
closed_all now (Spawned p ok) a = sym (map_still (closed now (Spawned p ok)) a.calls (λ c. refl))

-- The session's own calls after the entry.
pub record OwnAfter (now : Stamp) (j : Input) (number : ℕ) (calls : List Call) (i : SessionId) (a b : Machine) : Type 0 where
  pub newer : List Course
  pub same : own_courses i b ≡ newer ++ map (closed now j) (own_courses i a)
  pub each : Every (λ c. IsNewCourse now number calls c × (is_course_of i c ≡ true)) newer

own_as : (i : SessionId) (now : Stamp) (j : Input) (c : Course) → is_course_of i (closed now j c) ≡ is_course_of i c
own_as i now j c =
    let k : IsKept c (closed now j c) = kept now j c in
    ap (λ n. n == i.daemon && (closed now j c).call.session == i.number) k.daemon ∙ ap (λ x. c.daemon == i.daemon && x.session == i.number) k.call

pub own_after : (i : SessionId) (now : Stamp) (j : Input) (fx : Effects) (a : Machine) (d : Daemon) → a.daemon ≡ Some d
    → OwnAfter now j d.number fx.calls i a (after_step now j fx a)
own_after i now j fx a d runs =
    let s = step_submits now j fx a d runs in
    record {
      newer = filter (is_course_of i) s.newer;
      same = ap (λ cs. filter (is_course_of i) cs) s.same ∙ filter-append (is_course_of i) s.newer (close_answered now j a).calls
          ∙ ap (λ cs. filter (is_course_of i) s.newer ++ filter (is_course_of i) cs) (closed_all now j a)
          ∙ ap (λ cs. filter (is_course_of i) s.newer ++ cs) (own_mapped i (closed now j) a.calls (own_as i now j));
      each = every_filtered (IsNewCourse now d.number fx.calls) (is_course_of i) s.newer s.each;
    }

-- ---- the call of a step of a joining

-- It is the same call, or there is none, or the entry makes one.
abbrev pub JoinGoes : (Course → Type 0) → (Course → Course) → Option Course → Option Course → Type 0
JoinGoes P f None None = Unit {0}
JoinGoes P f None (Some c) = P c
JoinGoes P f (Some c) None = ⊥
JoinGoes P f (Some c) (Some x) = (x ≡ f c)

newer_by : (P : Course → Type 0) (b : Bool) (x : Course) (o : Option Course) (c : Course) → P x → (o ≡ Some c → P c) → cond b (Some x) o ≡ Some c → P c
newer_by P true x o c this rest h = subst P (some_value x c h) this
newer_by P false x o c this rest h = rest h

find_newer : (P : Course → Type 0) (p : Course → Bool) (newer rest : List Course) (c : Course) → Every P newer → find p rest ≡ None
    → find p (newer ++ rest) ≡ Some c → P c
find_newer P p [] rest c each none h = absurd (none_some c (sym none ∙ h))
find_newer P p (x ∷ newer) rest c each none h =
    newer_by P (p x) x (find p (newer ++ rest)) c each.0 (find_newer P p newer rest c each.1 none) h

mapped_by : (f : Course → Course) (b t : Bool) (c : Course) (o q : Option Course) → t ≡ b → cond b (Some c) o ≡ None → (o ≡ None → q ≡ None)
    → cond t (Some (f c)) q ≡ None
mapped_by f true t c o q same h rest = absurd (none_some c (sym h))
mapped_by f false t c o q same h rest = ap (λ b. cond b (Some (f c)) q) same ∙ rest h

pub find_mapped : (p : Course → Bool) (f : Course → Course) (cs : List Course) → ((c : Course) → p (f c) ≡ p c) → find p cs ≡ None
    → find p (map f cs) ≡ None
find_mapped p f [] as_was h = refl
find_mapped p f (c ∷ cs) as_was h =
    mapped_by f (p c) (p (f c)) c (find p cs) (find p (map f cs)) (as_was c) h (find_mapped p f cs as_was)

goes_by : (P : Course → Type 0) (p : Course → Bool) (f : Course → Course) (newer cs : List Course) → Every P newer → ((c : Course) → p (f c) ≡ p c)
    → ((c : Course) → find p cs ≡ Some c → find p (newer ++ map f cs) ≡ Some (f c)) → (o q : Option Course) → find p cs ≡ o
    → find p (newer ++ map f cs) ≡ q → JoinGoes P f o q
goes_by P p f newer cs each as_was one None None at there = tt
goes_by P p f newer cs each as_was one None (Some c) at there = find_newer P p newer (map f cs) c each (find_mapped p f cs as_was at) there
goes_by P p f newer cs each as_was one (Some c) None at there = absurd (none_some (f c) (sym there ∙ one c at))
goes_by P p f newer cs each as_was one (Some c) (Some x) at there = some_value x (f c) (sym there ∙ one c at)

-- ---- a session

-- An entry that makes no call of the session.
abbrev pub IsSilent : Entry → Session → Type 0
IsSilent e s = (j : ℕ) (c : Call) → slice_get e.effects.calls j ≡ Some c → (c.session == s.number) ≡ false

-- A session before an entry of its daemon, in a world w, and after it.
pub record Through (p : Program) (h : Header) (xs : List Happening) (w : World) (i : SessionId) (f g : Found) : Type 0 where
  pub run : LawfulRun p h xs
  pub its : IsSession (world_at p h xs) i g
  pub layout : (world_at p h xs).layout ≡ w.layout
  pub stamp : Stamp
  pub entry : Entry
  pub session : g.session ≡ f.session
  pub setting : g.daemon.setting ≡ f.daemon.setting
  pub began : g.daemon.begun ≡ f.daemon.begun
  pub trace : g.daemon.trace ≡ entry ∷ f.daemon.trace
  pub stamps : g.daemon.stamps ≡ stamp ∷ f.daemon.stamps
  pub even : length f.daemon.stamps ≡ length f.daemon.trace
  pub newer : List Course
  pub calls : own_courses i g.machine ≡ newer ++ map (closed stamp entry.input) (own_courses i f.machine)
  pub each : Every (IsFresh stamp) newer
  -- its daemon runs on, and was not reset
  pub ran : runs_still f ≡ true
  pub runs : runs_still g ≡ true
  pub was_up : was_reset f ≡ false
  pub is_up : was_reset g ≡ false
  pub number : f.daemon.number ≡ i.daemon
  pub had : session_numbered f.daemon.setting f.daemon.trace f.session.number ≡ Some f.session
  -- what has ended, or written its free, makes no call
  pub silent : (k : ℕ) → ended_after f.daemon.trace f.session ≡ Some k → IsSilent entry f.session
  pub freed : (k : ℕ) (m : Submitted) → joined_after f.daemon.trace f.session ≡ Some k → free_write (calls_of f.daemon.trace f.session) ≡ Some m
      → IsSilent entry f.session
  pub none_new : IsSilent entry f.session → newer ≡ []
  -- what was made and sampled came before
  pub older : (c : Course) → Contains (own_courses i f.machine) c → c.made.step < stamp.step
  pub early : (c : Course) (y : Sampling) → Contains (own_courses i f.machine) c → Contains c.samples y → y.step < stamp.step

-- What is known of it after.
pub knows : {p : Program} {h : Header} {xs : List Happening} {w : World} {i : SessionId} {f g : Found} → Through p h xs w i f g
    → IsKnown (world_at p h xs) i g
knows {p = p} {h = h} {xs = xs} {i = i} {g = g} t = known grounds p h xs t.run i g t.its

-- What the entry makes of a call that was there.
abbrev pub closes : {p : Program} {h : Header} {xs : List Happening} {w : World} {i : SessionId} {f g : Found} → Through p h xs w i f g → Course → Course
closes t = closed t.stamp t.entry.input

-- A call that it had, later.
pub had_call : {p : Program} {h : Header} {xs : List Happening} {w : World} {i : SessionId} {f g : Found} (t : Through p h xs w i f g) (c : Course)
    → Contains (own_courses i f.machine) c → Contains (own_courses i g.machine) (closes t c)
had_call {i = i} {f = f} t c has =
    let k : Course → Course = closed t.stamp t.entry.input in
    subst (λ cs. Contains cs (k c)) (sym t.calls)
    (contains_right t.newer (map k (own_courses i f.machine)) (k c) (contains_map k (own_courses i f.machine) c has))

pub step_as : (now : Stamp) (j : Input) (step : JoinStep) (c : Course) → is_join_call step (closed now j c).call.purpose ≡ is_join_call step c.call.purpose
step_as now j step c = let k : IsKept c (closed now j c) = kept now j c in ap (λ x. is_join_call step x.purpose) k.call

-- A call of a step of its joining.
pub record HadStep {p : Program} {h : Header} {xs : List Happening} {w : World} {i : SessionId} {f g : Found} (t : Through p h xs w i f g) (step : JoinStep) (c : Course) : Type 0 where
  pub before : Contains (own_courses i f.machine) c
  pub has : Contains (own_courses i g.machine) (closes t c)
  pub is : is_join_call step (closes t c).call.purpose ≡ true

pub had_step : {p : Program} {h : Header} {xs : List Happening} {w : World} {i : SessionId} {f g : Found} (t : Through p h xs w i f g) (step : JoinStep) (c : Course)
    → join_course i step f.machine ≡ Some c → HadStep t step c
had_step {i = i} {f = f} t step c at =
    let p = find_passes (λ x. is_join_call step x.call.purpose) (own_courses i f.machine) c at in
    record { before = p.there; has = had_call t c p.there; is = step_as t.stamp t.entry.input step c ∙ p.test }

one_call : {p : Program} {h : Header} {xs : List Happening} {w : World} {i : SessionId} {f g : Found} (t : Through p h xs w i f g) (step : JoinStep)
    → (rank_at step ≡ 2 → ⊥) → (c : Course) → join_course i step f.machine ≡ Some c → join_course i step g.machine ≡ Some (closes t c)
one_call {p = p} {h = h} {xs = xs} {i = i} {g = g} t step once c at =
    let s = had_step t step c at in
    only (world_at p h xs) i g (closes t c) (own_call (world_at p h xs) i g (closes t c) (knows t) s.has) step once s.is

-- So goes each step of its joining that comes once.
pub join_goes : {p : Program} {h : Header} {xs : List Happening} {w : World} {i : SessionId} {f g : Found} (t : Through p h xs w i f g) (step : JoinStep)
    → (rank_at step ≡ 2 → ⊥) → JoinGoes (IsFresh t.stamp) (closes t) (join_course i step f.machine) (join_course i step g.machine)
join_goes {i = i} {f = f} {g = g} t step once =
    let p : Course → Bool = λ x. is_join_call step x.call.purpose in
    goes_by (IsFresh t.stamp) p (closed t.stamp t.entry.input) t.newer (own_courses i f.machine) t.each (step_as t.stamp t.entry.input step)
    (λ c at. ap (λ cs. find p cs) (sym t.calls) ∙ one_call t step once c at)
    (join_course i step f.machine) (join_course i step g.machine) refl (ap (λ cs. find p cs) (sym t.calls))
