-- A session of a lawful run beside its trace: its calls on its machine are those of its trace, in the same order.
use Rattle.sl_run_law.proofs.Course.CoursesAreCalls.{courses_are_calls}
use Rattle.sl_run_law.proofs.Course.MachinesMirror.{machines_mirror}
use Rattle.sl_run_law.specs.Course.Mirrors.{Mirrors}
use Rattle.sl_run_law.specs.Course.CallStamps.{AreCalls, IsCourseOf, Pairwise, courses_of}
use Rattle.sl_run_law.proofs.Front.JoinedLists.{in_flat}
use Rattle.sl_id_safety.proofs.State.FindingFrames.{on_machine}
use Rattle.sl_id_safety.specs.State.IdStates.{join_course, own_courses}
use Rattle.sl_run.specs.Lawful.{Orderly}
use Rattle.sl_words.proofs.Lists.{filter_both, got_inside}
use Rattle.sl_run.specs.Runs.{Happening}
use Rattle.sl_run.specs.Safety.{Found, IsSession as IsSessionOf, LawfulRun, SessionId, trace_of, world_at}
use Rattle.sl_run.specs.Worlds.{Course, Daemon, Machine, Program, World, daemon_numbered, daemons_on, is_write_course, machine_at}
use Rattle.sl_run.specs.declared.header.Header.{Header}
use Rattle.sl_run_law.proofs.MachineWalk.{index}
use Rattle.sl_run_law.specs.Sessions.SessionLaws.{IsSession}
use Rattle.sl_trace.specs.Sessions.{calls_of, has_open_write, is_call_of, is_join_call, join_call, session_numbered}
use Rattle.sl_trace.specs.declared.session.Session.{Session}
use Rattle.sl_trace.specs.Traces.{Submitted, is_write, submitted}
use Rattle.sl_trace.specs.declared.effects.Call.{Call}
use Rattle.sl_trace.specs.declared.effects.JoinStep.{JoinStep}
use Rattle.sl_run_law.proofs.Watchdog.FoundCalls.{open_write}
use Rattle.sl_run_law.proofs.Watchdog.TraceNumbers.{number_is}
use Rattle.sl_run_law.proofs.Watchdog.WritersMayAct.{pair_of, unanswered_by}
use Rattle.sl_words.proofs.CaseLaws.{none_some, some_value}
use Rattle.std.proofs.Common.{ap, refl, subst, sym, ◌∙◌}
use Rattle.std.specs.Prelude.{Bool, Contains, List, None, Option, Some, [], cond, false, filter, find, true, ◌-◌, ◌==◌, ◌∷◌, ◌≡◌}

-- ---- two lists, element by element

pub kept_pair : {A B : Type 0} (R : A → B → Type 0) (x : A) (y : B) (xs : List A) (ys : List B) (b c : Bool) → c ≡ b → R x y → Pairwise R xs ys
    → Pairwise R (cond b (x ∷ xs) xs) (cond c (y ∷ ys) ys)
kept_pair R x y xs ys true c same r rest = subst (λ t. Pairwise R (x ∷ xs) (cond t (y ∷ ys) ys)) (sym same) (r, rest)
kept_pair R x y xs ys false c same r rest = subst (λ t. Pairwise R xs (cond t (y ∷ ys) ys)) (sym same) rest

-- Tests that agree leave related lists.
pub filter_pairs : {A B : Type 0} (R : A → B → Type 0) (p : A → Bool) (q : B → Bool) → ((a : A) (b : B) → R a b → q b ≡ p a) → (xs : List A) (ys : List B)
    → Pairwise R xs ys → Pairwise R (filter p xs) (filter q ys)
filter_pairs R p q agree [] [] h = tt
filter_pairs R p q agree [] (y ∷ ys) h = absurd h
filter_pairs R p q agree (x ∷ xs) [] h = absurd h
filter_pairs R p q agree (x ∷ xs) (y ∷ ys) h =
    kept_pair R x y (filter p xs) (filter q ys) (p x) (q y) (agree x y h.0) h.0 (filter_pairs R p q agree xs ys h.1)

-- Both are there and related, or neither is.
abbrev Alike : {A B : Type 0} → (A → B → Type 0) → Option A → Option B → Type 0
Alike R None None = Unit {0}
Alike R None (Some b) = ⊥
Alike R (Some a) None = ⊥
Alike R (Some a) (Some b) = R a b

alike_by : {A B : Type 0} (R : A → B → Type 0) (x : A) (y : B) (o : Option A) (q : Option B) (b c : Bool) → c ≡ b → R x y → Alike R o q
    → Alike R (cond b (Some x) o) (cond c (Some y) q)
alike_by R x y o q true c same r rest = subst (λ t. Alike R (Some x) (cond t (Some y) q)) (sym same) r
alike_by R x y o q false c same r rest = subst (λ t. Alike R o (cond t (Some y) q)) (sym same) rest

-- .. and find related elements.
find_alike : {A B : Type 0} (R : A → B → Type 0) (p : A → Bool) (q : B → Bool) → ((a : A) (b : B) → R a b → q b ≡ p a) → (xs : List A) (ys : List B)
    → Pairwise R xs ys → Alike R (find p xs) (find q ys)
find_alike R p q agree [] [] h = tt
find_alike R p q agree [] (y ∷ ys) h = absurd h
find_alike R p q agree (x ∷ xs) [] h = absurd h
find_alike R p q agree (x ∷ xs) (y ∷ ys) h = alike_by R x y (find p xs) (find q ys) (p x) (q y) (agree x y h.0) h.0 (find_alike R p q agree xs ys h.1)

alike_some : {A B : Type 0} (R : A → B → Type 0) (o : Option A) (q : Option B) (a : A) → Alike R o q → o ≡ Some a → (b : B) × (q ≡ Some b) × R a b
alike_some R None q a h is = absurd (none_some a is)
alike_some R (Some x) None a h is = absurd h
alike_some {A} R (Some x) (Some b) a h is = (b, refl, subst (λ (z : A). R z b) (some_value x a is) h)

alike_none : {A B : Type 0} (R : A → B → Type 0) (o : Option A) (q : Option B) → Alike R o q → o ≡ None → q ≡ None
alike_none R None None h is = refl
alike_none R None (Some b) h is = absurd h
alike_none R (Some a) q h is = absurd (none_some a (sym is))

-- ---- a session of a lawful run

-- A session with its machine, its daemon and its trace.
pub record IsBeside (w : World) (i : SessionId) (f : Found) : Type 0 where
  pub at : machine_at w i.machine ≡ Some f.machine
  pub has : Contains (daemons_on f.machine) f.daemon
  pub numbered : daemon_numbered f.machine i.daemon ≡ Some f.daemon
  pub number : f.daemon.number ≡ i.daemon
  pub lawful : Orderly f.daemon.setting (trace_of f)
  pub its : IsSession f.daemon.setting (trace_of f) f.session
  pub mirrors : Mirrors f.machine
  pub pairs : Pairwise (IsCourseOf f.daemon) (own_courses i f.machine) (calls_of (trace_of f) f.session)

pub own_pairs : (i : SessionId) (a : Machine) (d : Daemon) (s : Session) → d.number ≡ i.daemon → s.number ≡ i.number → AreCalls a d
    → Pairwise (IsCourseOf d) (own_courses i a) (calls_of d.trace s)
own_pairs i a d s daemon number pairs =
    subst (λ cs. Pairwise (IsCourseOf d) cs (calls_of d.trace s))
    (sym (filter_both (λ (c : Course). c.daemon == i.daemon) (λ (c : Course). c.call.session == i.number) a.calls))
    (filter_pairs (IsCourseOf d) (λ c. c.call.session == i.number) (is_call_of s)
    (λ c m r. ap (λ (x : Call). x.session == s.number) r.call ∙ ap (λ n. c.call.session == n) number) (courses_of a i.daemon) (submitted d.trace)
    (subst (λ n. Pairwise (IsCourseOf d) (courses_of a n) (submitted d.trace)) daemon pairs))

pub beside : (p : Program) (h : Header) (xs : List Happening) → LawfulRun p h xs → (i : SessionId) (f : Found) → IsSessionOf (world_at p h xs) i f
    → IsBeside (world_at p h xs) i f
beside p h xs run i f is =
    let w : World = world_at p h xs in
    let o = on_machine w i f is in
    let at : machine_at w i.machine ≡ Some f.machine = o.1 ∙ ap (λ a. Some a) (sym o.2.machine) in
    let has : Contains (daemons_on f.machine) f.daemon = subst (λ a. Contains (daemons_on a) f.daemon) (sym o.2.machine) o.2.has in
    let number = number_is f.daemon.setting f.daemon.trace i.number f.session o.2.session in
    record {
      at = at;
      has = has;
      numbered = ap (λ a. daemon_numbered a i.daemon) o.2.machine ∙ o.2.daemon;
      number = o.2.number;
      lawful = run.lawful f.daemon
          (in_flat daemons_on w.machines f.machine f.daemon (got_inside w.machines (i.machine - 1) f.machine (index w i.machine f.machine at).1) has);
      its = ap (λ n. session_numbered f.daemon.setting f.daemon.trace n) number ∙ o.2.session;
      mirrors = machines_mirror p h xs run i.machine f.machine at;
      pairs = own_pairs i f.machine f.daemon f.session o.2.number number (courses_are_calls p h xs run i.machine f.machine f.daemon at has);
    }

-- ---- its calls in its trace

join_alike : (w : World) (i : SessionId) (f : Found) → IsBeside w i f → (step : JoinStep)
    → Alike (IsCourseOf f.daemon) (join_course i step f.machine) (join_call (calls_of (trace_of f) f.session) step)
join_alike w i f b step =
    find_alike (IsCourseOf f.daemon) (λ c. is_join_call step c.call.purpose) (λ m. is_join_call step m.call.purpose) (λ c m r. ap (λ (x : Call). is_join_call step x.purpose) r.call)
    (own_courses i f.machine) (calls_of (trace_of f) f.session) b.pairs

pub join_there : (w : World) (i : SessionId) (f : Found) → IsBeside w i f → (step : JoinStep) (c : Course) → join_course i step f.machine ≡ Some c
    → (m : Submitted) × (join_call (calls_of (trace_of f) f.session) step ≡ Some m) × IsCourseOf f.daemon c m
join_there w i f b step c is =
    alike_some (IsCourseOf f.daemon) (join_course i step f.machine) (join_call (calls_of (trace_of f) f.session) step) c (join_alike w i f b step) is

pub join_none : (w : World) (i : SessionId) (f : Found) → IsBeside w i f → (step : JoinStep) → join_course i step f.machine ≡ None
    → join_call (calls_of (trace_of f) f.session) step ≡ None
join_none w i f b step is =
    alike_none (IsCourseOf f.daemon) (join_course i step f.machine) (join_call (calls_of (trace_of f) f.session) step) (join_alike w i f b step) is

-- A write of the session that is unanswered on the machine is so in the trace.
pub write_waits : (w : World) (i : SessionId) (f : Found) → IsBeside w i f → (c : Course) → Contains (own_courses i f.machine) c → is_write_course c ≡ true → c.answered ≡ None
    → has_open_write (trace_of f) f.session ≡ true
write_waits w i f b c there writes none =
    let m = pair_of (IsCourseOf f.daemon) (own_courses i f.machine) (calls_of (trace_of f) f.session) c b.pairs there in
    open_write (trace_of f) f.session m.0 m.1 (unanswered_by f.daemon c m.0.answer none m.2.answers) (ap (λ (x : Call). is_write x.op) m.2.call ∙ writes)
