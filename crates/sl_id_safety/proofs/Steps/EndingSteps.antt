-- An end of a daemon's run, or a reset, as one step of an id.
use Rattle.sl_run_law.proofs.Course.OneMachineChanges.{changed_here}
use Rattle.sl_run_law.specs.Course.Mirrors.{Mirrors, since_restart}
use Rattle.sl_run_law.specs.Course.CourseLaws.{MachinesMirror}
use Rattle.sl_run_law.proofs.Front.RunsFromFronts.{last_event}
use Rattle.sl_id_safety.proofs.State.CallFrames.{elsewhere_same}
use Rattle.sl_id_safety.proofs.State.FindingFrames.{IsFound, changed_elsewhere, found_moves, found_on, found_then, is_found, moved, on_machine, session_on, session_with}
use Rattle.sl_id_safety.proofs.State.Frames.{Same, SameThere, begun_past, ended, flying_same, is_running, standing_past}
use Rattle.sl_id_safety.proofs.State.LandingFrames.{same_landings}
use Rattle.sl_id_safety.proofs.State.SectorFrames.{SameIf, SameSector, history_same, sector_same, session_same_if}
use Rattle.sl_id_safety.specs.State.IdStates.{blank, claim_may_land, deciding_sample, has_begun, id_state, is_sector_of, own_courses, session_at, session_named_so, standing_by, standing_of}
use Rattle.sl_ids.proofs.DerivedLaws.{watchdogs}
use Rattle.sl_ids.proofs.WholeRuns.{reached_kept}
use Rattle.sl_ids.specs.Guards.{terms_of}
use Rattle.sl_ids.specs.Invariant.{Invariant}
use Rattle.sl_ids.specs.Runs.{Reached}
use Rattle.sl_ids.specs.State.{Session as IdSession, SessionId as IdName, State}
use Rattle.sl_ids.specs.Terms.{Terms}
use Rattle.sl_id_safety.proofs.Steps.CallEvents.{on_one, passes}
use Rattle.sl_id_safety.proofs.Steps.Endings.{EndsOf, EndsOn, ends_of, last_one, long_ago, not_running, over_stays, pending_before, resets_found}
use Rattle.sl_id_safety.proofs.Steps.EventFrames.{StayDistinct, first_writers}
use Rattle.sl_id_safety.proofs.Steps.OneSessionTurns.{OneTurns, Turns, flags_stay, flags_turn, of_number, one_turns}
use Rattle.sl_id_safety.specs.Steps.EventParts.{EndingsGoOn, IsEndingEvent, between, state_between}
use Rattle.sl_run_law.proofs.Landing.OneArrival.{changed_landings}
use Rattle.sl_run_law.specs.Landing.Landings.{LandingsAreWritten}
use Rattle.sl_run.specs.EventChanges.{after_crash, after_reset, first_change}
use Rattle.sl_run.specs.Refusals.{event_tests, may_happen, needs_daemon}
use Rattle.sl_run.specs.Runs.{Happening}
use Rattle.sl_run.specs.Safety.{Found, LawfulRun, SessionId, is_course_of, is_over, session_of_world, world_at}
use Rattle.sl_run.specs.Worlds.{Daemon, Machine, Program, Stamp, World, daemon_numbered, machine_at, resets_after, stamp_now}
use Rattle.sl_run.specs.declared.event.Event.TheVariants.{AnswerCall, Crash, Do, DropWrite, ExitOf, GiveAsk, GiveCommand, GiveLvm, Land, Pass as PassOf, Reset, Restart, Sample, SpawnedOf, StartDaemon, Tear, Test, WakeUp}
use Rattle.sl_run.specs.declared.event.Event.{Event}
use Rattle.sl_run.specs.declared.event.Refusal.TheVariants.{MissingUp}
use Rattle.sl_run.specs.declared.header.Header.{Header}
use Rattle.sl_run_law.proofs.WorldsGoOn.{event_goes}
use Rattle.sl_run_law.specs.WorldsGoOn.{Goes, time_of}
use Rattle.sl_trace.specs.Sessions.{sessions}
use Rattle.sl_words.proofs.CaseLaws.{is_false, not_both, one_value, true_is_false}
use Rattle.sl_words.proofs.OrderLaws.{same_or_apart}
use Rattle.sl_words.specs.Words.{some_is}
use Rattle.std.proofs.Common.{ap, arith, inl, inr, refl, subst, sym, tests, ◌∙◌}
use Rattle.std.proofs.lemmas.Bool.{eqb-true}
use Rattle.std.proofs.lemmas.Option.{slice_get_past}
use Rattle.std.specs.List.{list_any}
use Rattle.std.specs.Option.{option_map_or}
use Rattle.std.specs.Prelude.{Bool, List, None, Option, Some, cond, false, filter, is_none, is_some, length, nat_lt, not, option_map, true, [], ℕ, ◌&&◌, ◌++◌, ◌+◌, ◌==◌, ◌||◌, ◌∷◌, ◌≡◌, ◌≤◌, ◌⊎◌}

-- ---- a session of the machine

-- A session as it was, but for its flags.
record Flags (s t : IdSession) : Type 0 where
  pending : Bool
  over : Bool
  same : t ≡ ended s pending over
  last : s.over ≡ false → over ≡ true → pending ≡ false
  waits : pending ≡ true → s.pending ≡ true
  closed : s.over ≡ true → over ≡ true

flags_of : (w v : World) (path : List ℕ) (offset : ℕ) (i : SessionId) (f g : Found) → EndsOf i f g → SameThere w v path offset i f
    → Flags (standing_of w path offset i f) (standing_of v path offset i g)
flags_of w v path offset i f g e t =
    record {
      pending = is_some (deciding_sample i g) && claim_may_land i g;
      over = is_over i g;
      same = standing_past w v path offset i f g e.past t;
      last = last_one i f g e;
      waits = pending_before i f g e;
      closed = over_stays i f g e;
    }

-- What an ending is to a session, begun or not.
record Ending (s t : IdSession) : Type 0 where
  blank : s.begun ≡ false → t ≡ s
  flags : s.begun ≡ true → Flags s t

abbrev stood : World → List ℕ → ℕ → SessionId → Found → Bool → IdSession
stood w path offset i f b = elim b [ false ↦ blank | true ↦ standing_of w path offset i f ]

ending_by : (w v : World) (path : List ℕ) (offset : ℕ) (i : SessionId) (f g : Found) (b : Bool) → EndsOf i f g → SameThere w v path offset i f
    → Ending (stood w path offset i f b) (stood v path offset i g b)
ending_by w v path offset i f g false e t = record { blank = λ h. refl; flags = λ h. absurd (true_is_false (sym h)) }
ending_by w v path offset i f g true e t = record { blank = λ h. absurd (true_is_false h); flags = λ h. flags_of w v path offset i f g e t }

-- Whether it counts there.
abbrev counts : World → List ℕ → ℕ → SessionId → Found → Bool
counts w path offset i f = is_sector_of w.layout path offset f.session && has_begun i f

counts_same : (w v : World) (path : List ℕ) (offset : ℕ) (i : SessionId) (f g : Found) → v.layout ≡ w.layout → EndsOf i f g
    → counts v path offset i g ≡ counts w path offset i f
counts_same w v path offset i f g layout e =
    ap (λ x. is_sector_of v.layout path offset x && has_begun i g) e.past.session
    ∙ ap (λ x. is_sector_of x path offset f.session && has_begun i g) layout
    ∙ ap (λ x. is_sector_of w.layout path offset f.session && x) (begun_past i f g e.past)

ending_if : (w v : World) (path : List ℕ) (offset : ℕ) (i : SessionId) (f g : Found) → EndsOf i f g → SameThere w v path offset i f
    → Ending (stood w path offset i f (counts w path offset i f)) (stood v path offset i g (counts v path offset i g))
ending_if w v path offset i f g e t =
    subst (λ b. Ending (stood w path offset i f (counts w path offset i f)) (stood v path offset i g b))
    (sym (counts_same w v path offset i f g t.layout e)) (ending_by w v path offset i f g (counts w path offset i f) e t)

ending_in : (w v : World) (path : List ℕ) (offset : ℕ) (i : SessionId) (a b : Machine) (o : Option Found) → session_on w.moment i a ≡ o → b.calls ≡ a.calls
    → b.daemon ≡ None → ((land step : ℕ) → long_ago land w.moment b step ≡ long_ago land w.moment a step) → SameSector w v path offset
    → Ending (standing_by w path offset i o) (standing_by v path offset i (option_map (moved b) o))
ending_in w v path offset i a b None at calls none resets s = record { blank = λ h. refl; flags = λ h. absurd (true_is_false (sym h)) }
ending_in w v path offset i a b (Some f) at calls none resets s =
    ending_if w v path offset i f (moved b f) (ends_of w.moment i f a b (is_found w.moment i a f at) calls none resets) (sector_same w v path offset s i f)

-- Each session of the machine.
ending_at : (w v : World) (path : List ℕ) (offset m : ℕ) (e : EndsOn w v m) → SameSector w v path offset → (n : IdName) → n.machine ≡ m
    → Ending (session_at w path offset n) (session_at v path offset n)
ending_at w v path offset m e s n here =
    let i : SessionId = session_named_so n in
    let before = found_on w i e.before (ap (machine_at w) here ∙ e.at) in
    let after = found_then w v i e.after e.moment (ap (machine_at v) here ∙ e.later) ∙ found_moves w.moment i e.before e.after e.daemons in
    subst (λ o. Ending (standing_by w path offset i o) (session_at v path offset n)) (sym before)
    (subst (λ o. Ending (standing_by w path offset i (session_on w.moment i e.before)) (standing_by v path offset i o)) (sym after)
    (ending_in w v path offset i e.before e.after (session_on w.moment i e.before) refl e.calls e.none e.resets s))

-- ---- all others

same_steady : (n : ℕ) (i : SessionId) (a b : Machine) (f : Found) → IsFound n i a f → b.calls ≡ a.calls → b.daemon ≡ None → is_running f.daemon.number a ≡ false
    → ((land step : ℕ) → long_ago land n b step ≡ long_ago land n a step) → Same i f (moved b f)
same_steady n i a b f found calls none idle resets =
    let own : own_courses i b ≡ own_courses i f.machine = ap (λ cs. filter (is_course_of i) cs) (calls ∙ ap (λ x. x.calls) (sym found.machine)) in
    let before : is_running f.daemon.number f.machine ≡ false = ap (is_running f.daemon.number) found.machine ∙ idle in
    let run : is_running i.daemon b ≡ is_running i.daemon f.machine =
    not_running i.daemon b none ∙ sym (ap (λ n. is_running n f.machine) (sym found.number) ∙ before) in
    record {
      calls = own;
      session = refl;
      setting = refl;
      begun = refl;
      trace = refl;
      stamps = refl;
      runs = not_running f.daemon.number b none ∙ sym before;
      reset = resets_found n i f a b found resets;
      flying = flying_same i f.machine b own run;
    }

steady_in : (w v : World) (path : List ℕ) (offset m : ℕ) (e : EndsOn w v m) → SameSector w v path offset → (i : SessionId) → (i.daemon ≡ e.daemon → ⊥)
    → (o : Option Found) → session_on w.moment i e.before ≡ o → SameIf w v path offset i o (option_map (moved e.after) o)
steady_in w v path offset m e s i apart None at = tt
steady_in w v path offset m e s i apart (Some f) at =
    let found : IsFound w.moment i e.before f = is_found w.moment i e.before f at in
    let k = e.steady f.daemon found.has (λ same. apart (sym found.number ∙ same)) in (
      same_steady w.moment i e.before e.after f found e.calls e.none k e.resets,
      record { layout = s.layout; own = λ t u. sector_same w v path offset s i f },
    )

steady_at : (w v : World) (path : List ℕ) (offset m : ℕ) (e : EndsOn w v m) → SameSector w v path offset → (i : SessionId) → i.machine ≡ m
    → (i.daemon ≡ e.daemon → ⊥) → SameIf w v path offset i (session_of_world w i) (session_of_world v i)
steady_at w v path offset m e s i here apart =
    let before = found_on w i e.before (ap (machine_at w) here ∙ e.at) in
    let after = found_then w v i e.after e.moment (ap (machine_at v) here ∙ e.later) ∙ found_moves w.moment i e.before e.after e.daemons in
    subst (λ o. SameIf w v path offset i o (session_of_world v i)) (sym before)
    (subst (λ o. SameIf w v path offset i (session_on w.moment i e.before) o) (sym after)
    (steady_in w v path offset m e s i apart (session_on w.moment i e.before) refl))

other_by : (w v : World) (path : List ℕ) (offset m : ℕ) (e : EndsOn w v m) → SameSector w v path offset → (i : SessionId)
    → (i.machine ≡ m) ⊎ (i.machine ≡ m → ⊥) → ((i.machine ≡ m) × (i.daemon ≡ e.daemon) → ⊥)
    → SameIf w v path offset i (session_of_world w i) (session_of_world v i)
other_by w v path offset m e s i (inl here) other = steady_at w v path offset m e s i here (λ same. other (here, same))
other_by w v path offset m e s i (inr apart) other =
    elsewhere_same w v path offset i e.moment (e.elsewhere i.machine apart) (λ f at. record { layout = s.layout; own = λ t u. sector_same w v path offset s i f })

-- ---- sessions of one daemon

-- A session that has begun is found.
pub record IsBegun (w : World) (path : List ℕ) (offset : ℕ) (n : IdName) : Type 0 where
  pub found : Found
  pub at : session_of_world w (session_named_so n) ≡ Some found
  pub stands : session_at w path offset n ≡ standing_of w path offset (session_named_so n) found

stood_is : (w : World) (path : List ℕ) (offset : ℕ) (i : SessionId) (f : Found) (b : Bool) → (stood w path offset i f b).begun ≡ true
    → stood w path offset i f b ≡ standing_of w path offset i f
stood_is w path offset i f false h = absurd (true_is_false (sym h))
stood_is w path offset i f true h = refl

begun_by : (w : World) (path : List ℕ) (offset : ℕ) (n : IdName) (o : Option Found) → session_of_world w (session_named_so n) ≡ o
    → (standing_by w path offset (session_named_so n) o).begun ≡ true → IsBegun w path offset n
begun_by w path offset n None at h = absurd (true_is_false (sym h))
begun_by w path offset n (Some f) at h =
    let i : SessionId = session_named_so n in
    record {
      found = f;
      at = at;
      stands = ap (standing_by w path offset i) at ∙ stood_is w path offset i f (counts w path offset i f) h;
    }

pub is_begun : (w : World) (path : List ℕ) (offset : ℕ) (n : IdName) → (session_at w path offset n).begun ≡ true → IsBegun w path offset n
is_begun w path offset n h = begun_by w path offset n (session_of_world w (session_named_so n)) refl h

same_daemon : (w : World) (i k : SessionId) (f g : Found) → i.machine ≡ k.machine → i.daemon ≡ k.daemon → session_of_world w i ≡ Some f
    → session_of_world w k ≡ Some g → f.daemon ≡ g.daemon
same_daemon w i k f g machine daemon at there =
    let a = on_machine w i f at in
    let b = on_machine w k g there in
    let same : a.0 ≡ b.0 = one_value a.0 b.0 (machine_at w k.machine) (ap (machine_at w) (sym machine) ∙ a.1) b.1 in
    one_value f.daemon g.daemon (daemon_numbered b.0 k.daemon)
    (ap (daemon_numbered b.0) (sym daemon) ∙ ap (λ x. daemon_numbered x i.daemon) (sym same) ∙ a.2.daemon) b.2.daemon

-- Begun sessions of one daemon have one name.
pub one_name : (w : World) (path : List ℕ) (offset : ℕ) (j k : IdName) → j.machine ≡ k.machine → j.daemon ≡ k.daemon
    → (session_at w path offset j).begun ≡ true → (session_at w path offset k).begun ≡ true
    → (session_at w path offset j).name ≡ (session_at w path offset k).name
one_name w path offset j k machine daemon bj bk =
    let f = is_begun w path offset j bj in
    let g = is_begun w path offset k bk in
    ap (λ s. s.name) f.stands
    ∙ ap (λ d. d.setting.name) (same_daemon w (session_named_so j) (session_named_so k) f.found g.found machine daemon f.at g.at)
    ∙ sym (ap (λ s. s.name) g.stands)

-- How many sessions a daemon has.
abbrev pub sessions_of : Option Daemon → ℕ
sessions_of None = 0
sessions_of (Some d) = length (sessions d.setting d.trace)

few_by : (n : ℕ) (i : SessionId) (a : Machine) (o : Option Daemon) → sessions_of o ≤ i.number → session_with n i a o ≡ None
few_by n i a None h = refl
few_by n i a (Some d) h =
    ap (λ o. option_map (λ s. let y : Found = record { machine = a; daemon = d; session = s; now = n } in y) o)
    (slice_get_past (sessions d.setting d.trace) i.number h)

-- Beyond those none has begun.
pub few_begun : (w : World) (path : List ℕ) (offset m d : ℕ) (a : Machine) → machine_at w m ≡ Some a → (k : ℕ) → sessions_of (daemon_numbered a d) ≤ k
    → (session_at w path offset (of_number m d k)).begun ≡ false
few_begun w path offset m d a at k h =
    let i : SessionId = session_named_so (of_number m d k) in
    ap (λ o. (standing_by w path offset i o).begun) (found_on w i a at ∙ few_by w.moment i a (daemon_numbered a d) h)

-- ---- the step

over_same : (s t : IdSession) → Flags s t → s.over ≡ true → s.pending ≡ false → t ≡ s
over_same s t f closed none = f.same ∙ flags_stay s f.pending f.over closed none (f.closed closed) f.waits

turns_so : (s t : IdSession) → Flags s t → s.over ≡ false → Turns s t
turns_so s t f alive = subst (Turns s) (sym f.same) (flags_turn s f.pending f.over alive (f.last alive) f.waits)

not_pending : (r : Terms) (w : State) → Invariant r w → (j : IdName) → (w.session j).over ≡ true → (w.session j).pending ≡ false
not_pending r w inv j closed = is_false (w.session j).pending (λ t. not_both (w.session j).over closed ((inv.one j).waits t).3)

-- An ending of a daemon's sessions turns one at most.
pub ending_turns : (r : Terms) (w v : World) (path : List ℕ) (offset m : ℕ) (e : EndsOn w v m) → SameSector w v path offset
    → Invariant r (id_state w path offset) → OneTurns (id_state w path offset) (id_state v path offset) m e.daemon
ending_turns r w v path offset m e s inv =
    record {
      now = e.moment;
      same = same_landings w v path offset s;
      others = λ j other. session_same_if w v path offset j
          (other_by w v path offset m e s (session_named_so j) (same_or_apart j.machine m) other);
      blank = λ j is. (ending_at w v path offset m e s j is.0).blank;
      over = λ j is begun closed. over_same (session_at w path offset j) (session_at v path offset j)
          ((ending_at w v path offset m e s j is.0).flags begun) closed (not_pending r (id_state w path offset) inv j closed);
      turns = λ j is begun alive. turns_so (session_at w path offset j) (session_at v path offset j)
          ((ending_at w v path offset m e s j is.0).flags begun) alive;
      count = sessions_of (daemon_numbered e.before e.daemon);
      few = few_begun w path offset m e.daemon e.before e.at;
      solo = λ j k isj isk apart bj bk. (inv.two j k apart).solo
          (one_name w path offset j k (isj.0 ∙ sym isk.0) (isj.1 ∙ sym isk.1) bj bk) bj bk;
    }

-- ---- a crash, and a reset

there_is : (a : Machine) (o : Option Daemon) → a.daemon ≡ o → is_none o ≡ false → (d : Daemon) × (a.daemon ≡ Some d)
there_is a None at h = absurd (true_is_false h)
there_is a (Some d) at h = (d, at)

other_number : (m n : ℕ) → (n ≡ m → ⊥) → (m == n) ≡ false
other_number m n h = is_false (m == n) (λ t. h (sym (eqb-true m n t)))

no_time : (n m : ℕ) → m ≡ n + 0 → m ≡ n
no_time n m h = omega (arith, h)

crash_ends : (w : World) (m : ℕ) → may_happen w (Crash m) ≡ true → EndsOn w (between w (Crash m)) m
unfolding event_tests first_change
crash_ends w m may =
    let o = on_one w m (λ a. needs_daemon a ∷ []) (passes w (Crash m) may) in
    let d = there_is o.machine o.machine.daemon refl o.passes.0 in
    let g : Goes 0 1 w (between w (Crash m)) = event_goes w (Crash m) [] in
    record {
      before = o.machine;
      after = after_crash o.machine;
      at = o.at;
      later = changed_here w m after_crash o.machine o.at;
      elsewhere = λ k apart. changed_elsewhere w m k after_crash apart;
      calls = refl;
      daemons = refl;
      none = refl;
      resets = λ land step. refl;
      moment = no_time w.moment (between w (Crash m)).moment g.moment;
      daemon = d.0.number;
      steady = λ x has apart. ap (λ o. some_is (λ y. y.number == x.number) o) d.1 ∙ other_number d.0.number x.number apart;
    }

longer : (late : Stamp → Bool) (r : Stamp) (rs : List Stamp) (t : Bool) → late r ≡ false → list_any late (cond t (r ∷ rs) rs) ≡ list_any late rs
longer late r rs true h = ap (λ b. b || list_any late rs) h
longer late r rs false h = refl

not_yet : (n land : ℕ) → nat_lt (n + land) n ≡ false
not_yet n land = grind (arith, tests)

-- A reset is one more, of this moment.
one_reset : (w : World) (a : Machine) (land step : ℕ) → long_ago land w.moment (after_reset w a) step ≡ long_ago land w.moment a step
one_reset w a land step =
    longer (λ r. nat_lt (r.moment + land) w.moment) (stamp_now w a) (resets_after a step) (nat_lt step w.step) (not_yet w.moment land)

-- The number of the daemon since the last restart.
abbrev since_number : Machine → ℕ
since_number a = option_map_or (λ d. d.number) (since_restart a) 0

idle_by : (a : Machine) (d : Daemon) (o : Option Daemon) → Mirrors a → a.daemon ≡ o → (d.number ≡ since_number a → ⊥) → is_running d.number a ≡ false
idle_by a d None mirror is apart = not_running d.number a is
idle_by a d (Some r) mirror is apart =
    let number : since_number a ≡ r.number = ap (λ o. option_map_or (λ (x : Daemon). x.number) o 0) (mirror.running r is) in
    ap (λ o. some_is (λ y. y.number == d.number) o) is ∙ other_number r.number d.number (λ same. apart (same ∙ sym number))

reset_ends : (w : World) (m : ℕ) → may_happen w (Reset m) ≡ true → ((a : Machine) → machine_at w m ≡ Some a → Mirrors a) → EndsOn w (between w (Reset m)) m
unfolding event_tests first_change
reset_ends w m may mirrors =
    let o = on_one w m (λ a. (not a.up, MissingUp) ∷ []) (passes w (Reset m) may) in
    let a : Machine = o.machine in
    let k : Mirrors a = mirrors a o.at in
    let g : Goes 0 1 w (between w (Reset m)) = event_goes w (Reset m) [] in
    record {
      before = a;
      after = after_reset w a;
      at = o.at;
      later = changed_here w m (after_reset w) a o.at;
      elsewhere = λ j apart. changed_elsewhere w m j (after_reset w) apart;
      calls = refl;
      daemons = refl;
      none = refl;
      resets = one_reset w a;
      moment = no_time w.moment (between w (Reset m)).moment g.moment;
      daemon = since_number a;
      steady = λ d has apart. idle_by a d a.daemon k refl apart;
    }

-- Each ending is one on a machine.
ends_on : (w : World) (e : Event) → IsEndingEvent w e → may_happen w e ≡ true → ((m : ℕ) (a : Machine) → machine_at w m ≡ Some a → Mirrors a)
    → (m : ℕ) × EndsOn w (between w e) m
ends_on w (PassOf d growths) q may mirrors = absurd q
ends_on w (WakeUp m) q may mirrors = absurd q
ends_on w (GiveCommand m text) q may mirrors = absurd q
ends_on w (GiveLvm m line) q may mirrors = absurd q
ends_on w (GiveAsk m) q may mirrors = absurd q
ends_on w (Sample m c k) q may mirrors = absurd q
ends_on w (Land m c) q may mirrors = absurd q
ends_on w (Tear m c k bytes) q may mirrors = absurd q
ends_on w (AnswerCall m c ok) q may mirrors = absurd q
ends_on w (Do m c) q may mirrors = absurd q
ends_on w (DropWrite m c) q may mirrors = absurd q
ends_on w (Test m) q may mirrors = absurd q
ends_on w (ExitOf m p) q may mirrors = absurd q
ends_on w (SpawnedOf m p ok) q may mirrors = absurd q
ends_on w (StartDaemon m name) q may mirrors = absurd q
ends_on w (Crash m) q may mirrors = (m, crash_ends w m may)
ends_on w (Reset m) q may mirrors = (m, reset_ends w m may (mirrors m))
ends_on w (Restart m) q may mirrors = absurd q

ending_lands : (e : Event) (w : World) → IsEndingEvent w e → (first_change e w).landings ≡ w.landings
unfolding first_change
ending_lands (PassOf d growths) w q = absurd q
ending_lands (WakeUp m) w q = absurd q
ending_lands (GiveCommand m text) w q = absurd q
ending_lands (GiveLvm m line) w q = absurd q
ending_lands (GiveAsk m) w q = absurd q
ending_lands (Sample m c k) w q = absurd q
ending_lands (Land m c) w q = absurd q
ending_lands (Tear m c k bytes) w q = absurd q
ending_lands (AnswerCall m c ok) w q = absurd q
ending_lands (Do m c) w q = absurd q
ending_lands (DropWrite m c) w q = absurd q
ending_lands (Test m) w q = absurd q
ending_lands (ExitOf m p) w q = absurd q
ending_lands (SpawnedOf m p ok) w q = absurd q
ending_lands (StartDaemon m name) w q = absurd q
ending_lands (Crash m) w q = changed_landings m after_crash w
ending_lands (Reset m) w q = changed_landings m (after_reset w) w
ending_lands (Restart m) w q = absurd q

-- Where nothing lands the sector stays.
pub first_sector : StayDistinct → MachinesMirror → LandingsAreWritten → (p : Program) (h : Header) (now : List Happening) (x : Happening)
    → LawfulRun p h (now ++ x ∷ []) → (path : List ℕ) (offset : ℕ) → (first_change x.0 (world_at p h now)).landings ≡ (world_at p h now).landings
    → SameSector (world_at p h now) (between (world_at p h now) x.0) path offset
first_sector distinct mirror written p h now x run path offset landings =
    let w : World = world_at p h now in
    let g : Goes (time_of x.0) 1 w (between w x.0) = event_goes w x.0 [] in
    record {
      layout = g.layout;
      history = history_same w (between w x.0) path offset g.layout g.header landings;
      writers = first_writers distinct mirror written p h now x run path offset;
    }

-- The invariant of an id holds where it is reached.
pub holds_there : (p : Program) (h : Header) (xs : List Happening) (w : State) → LawfulRun p h xs → Reached (terms_of h.timing) w
    → Invariant (terms_of h.timing) w
holds_there p h xs w run reached = (reached_kept (terms_of h.timing) w (watchdogs.long h.timing run.header.timing) reached).0

pub endings_go_on_given : StayDistinct → MachinesMirror → LandingsAreWritten → EndingsGoOn
endings_go_on_given distinct mirror written p h now x path offset run place ending reached bounded =
    let last = last_event p h now x run in
    let w : World = world_at p h now in
    let e = ends_on w x.0 ending last.may (mirror p h now last.before) in
    let s = first_sector distinct mirror written p h now x run path offset (ending_lands x.0 w ending) in
    one_turns (terms_of h.timing) (id_state w path offset) (state_between p h now x.0 path offset) e.0 e.1.daemon
    (ending_turns (terms_of h.timing) w (between w x.0) path offset e.0 e.1 s (holds_there p h now (id_state w path offset) last.before reached)) bounded
