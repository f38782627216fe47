-- A session of a lawful run beside its trace: its calls on its machine are those of its trace, in the same order.
use Rattle.sl_id_safety.proofs.State.SessionBesideTrace.{own_pairs}
use Rattle.sl_run_law.proofs.Place.TracesOnMachines.{lawful_daemon}
use Rattle.sl_run_law.specs.Course.Mirrors.{IsOfWorld}
use Rattle.sl_run_law.specs.Course.CourseLaws.{CoursesAreCalls, DaemonsAreOfWorld}
use Rattle.sl_run_law.specs.Course.CallStamps.{IsCourseOf, Pairwise}
use Rattle.sl_run_law.proofs.Front.JoinedLists.{contains_append}
use Rattle.sl_id_safety.proofs.State.PairedLists.{EveryTail, PairsAt, find_pairs, pairs_at, stands, stands_there, tail_at}
use Rattle.sl_run_law.proofs.Place.SessionNumbers.{session_number}
use Rattle.sl_id_safety.proofs.State.Tails.{IsMadeAfter, all_made}
use Rattle.sl_id_safety.specs.State.IdStates.{join_course, own_courses}
use Rattle.sl_run_law.specs.Landing.Landings.{DoneWritesHaveLanded}
use Rattle.sl_run.specs.Lawful.{Orderly}
use Rattle.sl_run_law.proofs.Moment.MachinesInOrder.{calls_more, entries_ordered, fall_front, machines_ordered}
use Rattle.sl_run_law.specs.Moment.Orders.{CallsFall, Fall, IsTimed}
use Rattle.sl_words.proofs.Lists.{contains_cases, contains_none, find_inside}
use Rattle.sl_words.proofs.Options.{mapped_value, then_value}
use Rattle.sl_run.specs.Runs.{Happening}
use Rattle.sl_run.specs.Safety.{Found, IsSession, LawfulRun, SessionId, is_course_of, setting_in, trace_of, world_at}
use Rattle.sl_run.specs.Worlds.{Course, Daemon, Machine, Program, World, daemon_numbered, daemons_on, machine_at}
use Rattle.sl_run.specs.declared.header.Header.{Header}
use Rattle.sl_run_law.specs.Sample.Samples.{DoneReadsAreWhole, SampledAreSectors, SamplesAreLandings}
use Rattle.sl_run_law.specs.Sessions.SessionLaws.{IsSession as IsSessionOf}
use Rattle.sl_trace.specs.Sessions.{calls_of, is_join_call, join_call, session_numbered}
use Rattle.sl_trace.specs.declared.session.Session.{Session}
use Rattle.sl_trace.specs.Traces.{Submitted}
use Rattle.sl_trace.specs.declared.effects.Call.{Call}
use Rattle.sl_trace.specs.declared.effects.JoinStep.{JoinStep}
use Rattle.std.proofs.Common.{ap, arith, inl, inr, refl, subst, ◌∙◌}
use Rattle.std.proofs.lemmas.Bool.{eqb-true}
use Rattle.std.specs.Prelude.{Bool, Contains, List, Option, Some, [], cond, false, filter, option_and_then, option_map, true, ℕ, ◌++◌, ◌+◌, ◌<◌, ◌==◌, ◌∷◌, ◌≡◌, ◌≤◌, ◌⊎◌}

-- What the crates of calls, landings and samples promise.
pub record Grounds : Type 0 where
  pub calls : CoursesAreCalls
  pub of_world : DaemonsAreOfWorld
  pub landed : DoneWritesHaveLanded
  pub samples : SamplesAreLandings
  pub sectors : SampledAreSectors
  pub done : DoneReadsAreWhole

-- ---- a session that is meant

-- A session of the world with its machine and its daemon.
pub record IsThere (w : World) (i : SessionId) (f : Found) : Type 0 where
  pub at : machine_at w i.machine ≡ Some f.machine
  pub has : Contains (daemons_on f.machine) f.daemon
  pub daemon : f.daemon.number ≡ i.daemon
  pub found : daemon_numbered f.machine i.daemon ≡ Some f.daemon
  pub session : session_numbered f.daemon.setting f.daemon.trace i.number ≡ Some f.session
  pub number : f.session.number ≡ i.number
  pub now : f.now ≡ w.moment

abbrev found_as : ℕ → Machine → Daemon → Session → Found
found_as n a d s = record { machine = a; daemon = d; session = s; now = n }

abbrev sessions_in : ℕ → SessionId → Machine → Daemon → Option Found
sessions_in n i a d = option_map (found_as n a d) (session_numbered d.setting d.trace i.number)

abbrev daemons_in : ℕ → SessionId → Machine → Option Found
daemons_in n i a = option_and_then (sessions_in n i a) (daemon_numbered a i.daemon)

pub is_there : (w : World) (i : SessionId) (f : Found) → IsSession w i f → IsThere w i f
is_there w i f its =
    let one = then_value (daemons_in w.moment i) (machine_at w i.machine) f its in
    let two = then_value (sessions_in w.moment i one.0) (daemon_numbered one.0 i.daemon) f one.2 in
    let three = mapped_value (found_as w.moment one.0 two.0) (session_numbered two.0.setting two.0.trace i.number) f two.2 in
    let d = find_inside (λ (x : Daemon). x.number == i.daemon) (daemons_on one.0) two.0 two.1 in
    subst (λ g. IsThere w i g) three.2 (
    record {
      at = one.1;
      has = d.0;
      daemon = eqb-true two.0.number i.daemon d.1;
      found = two.1;
      session = three.1;
      number = session_number two.0.setting two.0.trace i.number three.0 three.1;
      now = refl;
    }
    )

-- ---- its calls on the machine and in the trace

-- ---- order

falls_kept : (p : Course → Bool) (c : Course) (n : ℕ) (rest : List Course) (b : Bool) → c.made.step < n → IsTimed c → CallsFall (c.made.step + 1) rest
    → CallsFall n (cond b (c ∷ rest) rest)
falls_kept p c n rest true lt timed h = (lt, timed, h)
falls_kept p c n rest false lt timed h = calls_more (c.made.step + 1) n rest (omega (arith, lt)) h

falls_filter : (p : Course → Bool) (n : ℕ) (cs : List Course) → CallsFall n cs → CallsFall n (filter p cs)
falls_filter p n [] h = tt
falls_filter p n (c ∷ cs) h = falls_kept p c n (filter p cs) (p c) h.0 h.1 (falls_filter p (c.made.step + 1) cs h.2)

pub falls_below : (n : ℕ) (cs : List Course) (c : Course) → CallsFall n cs → Contains cs c → (c.made.step < n) × IsTimed c
falls_below n [] c h there = absurd (contains_none c there)
falls_below n (d ∷ cs) c h there =
    elim (contains_cases d cs c there) as (λ z. (c.made.step < n) × IsTimed c) [
      | inl here ↦ subst (λ x. (x.made.step < n) × IsTimed x) here (h.0, h.1)
      | inr more ↦ let r = falls_below (d.made.step + 1) cs c h.2 more in (omega (arith, h.0, r.0), r.1)
    ]

-- None that stands newer was made before.
newer_is_later : (n : ℕ) (newer : List Course) (c : Course) (older : List Course) (d : Course) → CallsFall n (newer ++ c ∷ older) → Contains newer d → c.made.step ≤ d.made.step
newer_is_later n [] c older d h there = absurd (contains_none d there)
newer_is_later n (x ∷ newer) c older d h there =
    elim (contains_cases x newer d there) as (λ z. c.made.step ≤ d.made.step) [
      | inl here ↦ let r = falls_below (x.made.step + 1) (newer ++ c ∷ older) c h.2 (stands_there newer c older) in
          subst (λ y. c.made.step ≤ y.made.step) here (omega (arith, r.0))
      | inr more ↦ newer_is_later (x.made.step + 1) newer c older d h.2 more
    ]

older_by : (n : ℕ) (newer : List Course) (c : Course) (older : List Course) (d : Course) → CallsFall n (newer ++ c ∷ older) → Contains newer d ⊎ Contains (c ∷ older) d
    → d.made.step < c.made.step → Contains older d
older_by n newer c older d h (inl there) lt = absurd (omega (arith, lt, newer_is_later n newer c older d h there))
older_by n newer c older d h (inr there) lt =
    elim (contains_cases c older d there) as (λ z. Contains older d) [
      | inl here ↦ absurd (let same : c.made.step ≡ d.made.step = ap (λ (x : Course). x.made.step) here in omega (arith, lt, same))
      | inr more ↦ more
    ]

-- What was made before stands behind.
pub older_stands : (n : ℕ) (newer : List Course) (c : Course) (older : List Course) (d : Course) → CallsFall n (newer ++ c ∷ older) → Contains (newer ++ c ∷ older) d
    → d.made.step < c.made.step → Contains older d
older_stands n newer c older d h there lt = older_by n newer c older d h (contains_append newer (c ∷ older) d there) lt

falls_at : (n : ℕ) (newer : List Course) (c : Course) (older : List Course) → CallsFall n (newer ++ c ∷ older) → CallsFall (c.made.step + 1) older
falls_at n [] c older h = h.2
falls_at n (x ∷ newer) c older h = falls_at (x.made.step + 1) newer c older h.2

-- What stands behind was not made after.
behind_is_before : (n : ℕ) (newer : List Course) (c : Course) (older : List Course) (d : Course) → CallsFall n (newer ++ c ∷ older) → Contains older d → d.made.step ≤ c.made.step
behind_is_before n newer c older d h there = let r = falls_below (c.made.step + 1) older d (falls_at n newer c older h) there in omega (arith, r.0)

-- ---- what is known of a session of a lawful run

pub record IsKnown (w : World) (i : SessionId) (f : Found) : Type 0 where
  pub there : IsThere w i f
  pub lawful : Orderly (setting_in f) (trace_of f)
  pub its : IsSessionOf (setting_in f) (trace_of f) f.session
  pub pairs : Pairwise (IsCourseOf f.daemon) (own_courses i f.machine) (calls_of (trace_of f) f.session)
  pub of_world : IsOfWorld w i.machine f.daemon
  pub stamps : Fall w.step f.daemon.stamps
  pub falls : CallsFall w.step (own_courses i f.machine)

pub known : Grounds → (p : Program) (h : Header) (xs : List Happening) → LawfulRun p h xs → (i : SessionId) (f : Found) → IsSession (world_at p h xs) i f
    → IsKnown (world_at p h xs) i f
known g p h xs run i f its =
    let w : World = world_at p h xs in
    let t = is_there w i f its in
    record {
      there = t;
      lawful = lawful_daemon p h xs run i.machine f.machine f.daemon t.at t.has;
      its = ap (λ n. session_numbered (setting_in f) (trace_of f) n) t.number ∙ t.session;
      pairs = own_pairs i f.machine f.daemon f.session t.daemon t.number (g.calls p h xs run i.machine f.machine f.daemon t.at t.has);
      of_world = g.of_world p h xs run i.machine f.machine f.daemon t.at t.has;
      stamps = fall_front w.step f.daemon.stamps (f.daemon.begun ∷ []) (entries_ordered p h xs run i.machine f.machine f.daemon t.at t.has);
      falls = falls_filter (is_course_of i) w.step f.machine.calls (machines_ordered p h xs run i.machine f.machine t.at).calls;
    }

-- ---- where a call of it stands, on the machine and in the trace

pub record IsPlaced (i : SessionId) (f : Found) (c : Course) : Type 0 where
  pub newer : List Course
  pub older : List Course
  pub whole : own_courses i f.machine ≡ newer ++ c ∷ older
  pub pairs : PairsAt (IsCourseOf f.daemon) newer c older (calls_of (trace_of f) f.session)
  pub made : IsMadeAfter (trace_of f) f.session pairs.here pairs.rest
  pub timed : IsTimed c
  -- what was made before it stands behind it
  pub order : (d : Course) → Contains (own_courses i f.machine) d → d.made.step < c.made.step → Contains older d
  pub behind : (d : Course) → Contains older d → d.made.step ≤ c.made.step

-- The call as it stands in the trace, and those that stand behind it.
abbrev pub call_at : {i : SessionId} {f : Found} {c : Course} → IsPlaced i f c → Submitted
call_at x = x.pairs.here

abbrev pub calls_behind : {i : SessionId} {f : Found} {c : Course} → IsPlaced i f c → List Submitted
calls_behind x = x.pairs.rest

pub placed : (w : World) (i : SessionId) (f : Found) (c : Course) → IsKnown w i f → Contains (own_courses i f.machine) c → IsPlaced i f c
placed w i f c k there =
    let s = stands (own_courses i f.machine) c there in
    let ms : List Submitted = calls_of (trace_of f) f.session in
    let pairs = pairs_at (IsCourseOf f.daemon) s.newer c s.older ms (subst (λ cs. Pairwise (IsCourseOf f.daemon) cs ms) s.whole k.pairs) in
    let falls = subst (λ cs. CallsFall w.step cs) s.whole k.falls in
    record {
      newer = s.newer;
      older = s.older;
      whole = s.whole;
      pairs = pairs;
      made = tail_at (IsMadeAfter (trace_of f) f.session) pairs.front pairs.here pairs.rest
          (subst (λ cs. EveryTail (IsMadeAfter (trace_of f) f.session) cs) pairs.whole (all_made (trace_of f) f.session));
      timed = (falls_below w.step (own_courses i f.machine) c k.falls there).1;
      order = λ d has lt. older_stands w.step s.newer c s.older d falls (subst (λ cs. Contains cs d) s.whole has) lt;
      behind = λ d has. behind_is_before w.step s.newer c s.older d falls has;
    }

-- ---- steps of a joining

pub step_agrees : (d : Daemon) (step : JoinStep) (c : Course) (m : Submitted) → IsCourseOf d c m → is_join_call step m.call.purpose ≡ is_join_call step c.call.purpose
step_agrees d step c m r = ap (λ (x : Call). is_join_call step x.purpose) r.call

-- The call of a step in the trace is that on the machine.
pub join_pairs : (w : World) (i : SessionId) (f : Found) → IsKnown w i f → (step : JoinStep) (m : Submitted) → join_call (calls_of (trace_of f) f.session) step ≡ Some m
    → (c : Course) × (join_course i step f.machine ≡ Some c) × IsCourseOf f.daemon c m
join_pairs w i f k step m is =
    find_pairs (IsCourseOf f.daemon) (λ c. is_join_call step c.call.purpose) (λ n. is_join_call step n.call.purpose) (step_agrees f.daemon step)
    (own_courses i f.machine) (calls_of (trace_of f) f.session) k.pairs m is
