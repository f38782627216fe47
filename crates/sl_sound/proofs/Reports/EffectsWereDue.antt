-- A run whose daemons all did what is due has at each event the effects that were due.
--
-- What is due is said of the traces at the end of the run. Each step's entry stands in a trace from then on, with those before it behind
-- it: so the step had the effects that were due when it was made.
use Rattle.sl_due.specs.Due.{IsDue, IsHostTrace, due}
use Rattle.sl_run_law.proofs.Front.RunsFromFronts.{Later, daemon_later, one_step, run_after, run_rest}
use Rattle.sl_run_law.proofs.Front.JoinedLists.{in_flat}
use Rattle.sl_run_law.specs.Front.LawfulFronts.{HasOneStep}
use Rattle.sl_words.proofs.Lists.{contains_first, got_inside, head_is, next_before, set_here, tail_is}
use Rattle.sl_sound.proofs.Reports.UnseenCalls.{complete_keeps, seen_of}
use Rattle.sl_sound.specs.Reports.FollowedSchedules.{DoesWhatIsDue}
use Rattle.sl_words.proofs.Options.{else_some, some_there, then_value}
use Rattle.sl_report.specs.DueRuns.{due_at, effects_of}
use Rattle.sl_run.specs.EventChanges.{after_step, first_change, happens, next_step, take_step, with_entry}
use Rattle.sl_run.specs.Refusals.{event_tests, may_happen}
use Rattle.sl_run.specs.Inputs.{input_at, input_of, machine_of}
use Rattle.sl_run.specs.Runs.{EachDaemon, Happening, IsRun, own_effects_of}
use Rattle.sl_run.specs.Safety.{world_at}
use Rattle.sl_run.specs.Worlds.{Daemon, Machine, Program, Stamp, World, change_machine, daemons_on, machine_at, reading_now, stamp_now, world_with}
use Rattle.sl_run.specs.declared.event.Event.TheVariants.{AnswerCall, Crash, Do, DropWrite, ExitOf, GiveCommand, Land, Pass, Reset, Restart, Sample, SpawnedOf, StartDaemon, Tear, Test, WakeUp, GiveAsk, GiveLvm}
use Rattle.sl_run.specs.declared.event.Event.{Event}
use Rattle.sl_run.specs.declared.header.Header.{Header}
use Rattle.sl_run_law.proofs.Guards.{on_this, passes}
use Rattle.sl_run_law.proofs.MachineWalk.{index}
use Rattle.sl_time.specs.Times.{reading_of}
use Rattle.sl_trace.proofs.TraceFacts.{each_entry-front}
use Rattle.sl_trace.specs.Traces.{Trace, no_effects}
use Rattle.sl_trace.specs.declared.effects.Effects.{Effects}
use Rattle.sl_trace.specs.declared.effects.Entry.{Entry}
use Rattle.sl_trace.specs.declared.input.Input.TheVariants.{Answer as Told, Exit, Line, Number, Spawned, Wake}
use Rattle.sl_trace.specs.declared.input.Input.{Input}
use Rattle.sl_words.proofs.CaseLaws.{none_some, some_value, true_is_false}
use Rattle.sl_words.proofs.WordLaws.{choose_some}
use Rattle.std.proofs.Common.{ap, refl, subst, sym, ◌∙◌}
use Rattle.std.specs.Option.{option_map_or}
use Rattle.std.specs.Prelude.{Contains, List, None, Option, Some, false, is_none, is_some, map, option_map, slice_get, slice_set, suc, true, zero, [], ℕ, ◌++◌, ◌-◌, ◌==◌, ◌∷◌, ◌≡◌}

-- ---- the machine that takes a step

-- The daemon of a machine and its clock: an event that brings an input changes neither before the step.
abbrev pub seen : Machine → Option Daemon × ℕ
seen a = (a.daemon, a.clock)

pub input_leaves : (e : Event) (w : World) (a : Machine) (i : Input) → input_at w e a ≡ Some i → seen_of seen (first_change e w) ≡ seen_of seen w
unfolding first_change
input_leaves (WakeUp m) w a i h = refl
input_leaves (GiveCommand m text) w a i h = refl
input_leaves (GiveLvm m line) w a i h = refl
input_leaves (GiveAsk m) w a i h = refl
input_leaves (AnswerCall m c ok) w a i h = refl
input_leaves (Do m c) w a i h = complete_keeps seen (λ k f b. refl) m c w
input_leaves (ExitOf m p) w a i h = refl
input_leaves (SpawnedOf m p b) w a i h = refl
input_leaves (Pass x y) w a i h = absurd (none_some i h)
input_leaves (Sample m c n) w a i h = absurd (none_some i h)
input_leaves (Land m c) w a i h = absurd (none_some i h)
input_leaves (Tear m c n b) w a i h = absurd (none_some i h)
input_leaves (DropWrite m c) w a i h = absurd (none_some i h)
input_leaves (Test m) w a i h = absurd (none_some i h)
input_leaves (StartDaemon m n) w a i h = absurd (none_some i h)
input_leaves (Crash m) w a i h = absurd (none_some i h)
input_leaves (Reset m) w a i h = absurd (none_some i h)
input_leaves (Restart m) w a i h = absurd (none_some i h)

is_running : (o : Option Daemon) → is_none o ≡ false → (d : Daemon) × (o ≡ Some d)
is_running None h = absurd (true_is_false h)
is_running (Some d) h = (d, refl)

-- Where an event may happen that brings an input, a daemon takes it.
pub somebody : (e : Event) (w : World) (a : Machine) (i : Input) → may_happen w e ≡ true → machine_at w (machine_of e) ≡ Some a → input_at w e a ≡ Some i
    → (d : Daemon) × (a.daemon ≡ Some d)
unfolding event_tests
somebody (WakeUp m) w a i may at h = is_running a.daemon (on_this w m _ a at (passes w (WakeUp m) may)).0
somebody (GiveCommand m text) w a i may at h = is_running a.daemon (on_this w m _ a at (passes w (GiveCommand m text) may)).0
somebody (GiveLvm m line) w a i may at h = is_running a.daemon (on_this w m _ a at (passes w (GiveLvm m line) may)).0
somebody (GiveAsk m) w a i may at h = is_running a.daemon (on_this w m _ a at (passes w (GiveAsk m) may)).0
somebody (AnswerCall m c ok) w a i may at h = is_running a.daemon (on_this w m _ a at (passes w (AnswerCall m c ok) may)).0
somebody (Do m c) w a i may at h = is_running a.daemon (on_this w m _ a at (passes w (Do m c) may)).0
somebody (ExitOf m p) w a i may at h = some_there a.daemon (choose_some (is_some a.daemon) (Exit p) i h).0
somebody (SpawnedOf m p b) w a i may at h = is_running a.daemon (on_this w m _ a at (passes w (SpawnedOf m p b) may)).0
somebody (Pass x y) w a i may at h = absurd (none_some i h)
somebody (Sample m c n) w a i may at h = absurd (none_some i h)
somebody (Land m c) w a i may at h = absurd (none_some i h)
somebody (Tear m c n b) w a i may at h = absurd (none_some i h)
somebody (DropWrite m c) w a i may at h = absurd (none_some i h)
somebody (Test m) w a i may at h = absurd (none_some i h)
somebody (StartDaemon m n) w a i may at h = absurd (none_some i h)
somebody (Crash m) w a i may at h = absurd (none_some i h)
somebody (Reset m) w a i may at h = absurd (none_some i h)
somebody (Restart m) w a i may at h = absurd (none_some i h)

nothing_is_seen : (x : Option Daemon × ℕ) (xs : List (Option Daemon × ℕ)) → [] ≡ x ∷ xs → ⊥
nothing_is_seen x xs h = absurd cc

seen_there : (ms ns : List Machine) (k : ℕ) (a : Machine) → map seen ns ≡ map seen ms → slice_get ms k ≡ Some a
    → (b : Machine) × (slice_get ns k ≡ Some b) × (seen b ≡ seen a)
seen_there [] ns k a same h = absurd (none_some a h)
seen_there (m ∷ ms) [] k a same h = absurd (nothing_is_seen (seen m) (map seen ms) same)
seen_there (m ∷ ms) (n ∷ ns) zero a same h =
    (n, refl, head_is (seen n) (seen m) (map seen ns) (map seen ms) same ∙ ap seen (some_value m a h))
seen_there (m ∷ ms) (n ∷ ns) (suc k) a same h = seen_there ms ns k a (tail_is (seen n) (seen m) (map seen ns) (map seen ms) same) h

-- The same machine in two worlds that look alike.
pub seen_at : (w v : World) (m : ℕ) (a : Machine) → seen_of seen v ≡ seen_of seen w → machine_at w m ≡ Some a → (b : Machine) × (machine_at v m ≡ Some b) × (seen b ≡ seen a)
seen_at w v m a same at =
    let p = index w m a at in
    let q = seen_there w.machines v.machines (m - 1) a same p.1 in
    (q.0, else_some (m == 0) (slice_get v.machines (m - 1)) q.0 p.0 q.1, q.2)

-- A machine that is changed is there, changed.
changed_there : (f : Machine → Machine) (v : World) (m : ℕ) (b : Machine) → machine_at v m ≡ Some b → machine_at (change_machine m f v) m ≡ Some (f b)
changed_there f v m b at =
    let p = index v m b at in
    ap (λ o. machine_at (elim o as (λ x. World) [ None ↦ v | Some c ↦ record v { machines = slice_set v.machines (m - 1) (f c) } ]) m) at
    ∙ else_some (m == 0) (slice_get (slice_set v.machines (m - 1) (f b)) (m - 1)) (f b) p.0 (set_here v.machines (m - 1) (f b) b p.1)

pub step_daemon : (now : Stamp) (i : Input) (fx : Effects) (a : Machine)
    → (after_step now i fx a).daemon ≡ option_map (with_entry (record { reading = reading_now a; input = i; effects = fx }) now) a.daemon
step_daemon now (Line text) fx a = refl
step_daemon now (Told n answer) fx a = refl
step_daemon now Wake fx a = refl
step_daemon now (Exit p) fx a = refl
step_daemon now (Number p) fx a = refl
step_daemon now (Spawned p ok) fx a = refl

-- A daemon with one entry more than another, made at this reading.
record Entered (d e : Daemon) (reading : ℕ) (i : Input) (fx : Effects) : Type 0 where
  setting : e.setting ≡ d.setting
  trace : e.trace ≡ record { reading = reading; input = i; effects = fx } ∷ d.trace

-- The machine after a step, whose daemon has it in its trace.
record TookStep (v : World) (m : ℕ) (d : Daemon) (reading : ℕ) (i : Input) (fx : Effects) : Type 0 where
  machine : Machine
  daemon : Daemon
  at : machine_at v m ≡ Some machine
  has : Contains (daemons_on machine) daemon
  entered : Entered d daemon reading i fx

first_on : (a : Machine) (d : Daemon) → a.daemon ≡ Some d → Contains (daemons_on a) d
first_on a d runs =
    subst (λ o. Contains (elim o as (λ x. List Daemon) [ None ↦ a.ended | Some e ↦ e ∷ a.ended ]) d) (sym runs) (contains_first d a.ended)

took_step : (w : World) (e : Event) (a : Machine) (d : Daemon) (i : Input) (fx : Effects) → machine_at w (machine_of e) ≡ Some a → a.daemon ≡ Some d
    → input_at w e a ≡ Some i → TookStep (take_step (machine_of e) (Some i) fx (next_step (first_change e w))) (machine_of e) d (reading_now a) i fx
took_step w e a d i fx at runs told =
    let v : World = next_step (first_change e w) in
    let b = seen_at w v (machine_of e) a (input_leaves e w a i told) at in
    let now : Stamp = stamp_now v b.0 in
    let after : Machine = after_step now i fx b.0 in
    let clock : reading_now b.0 ≡ reading_now a = ap (λ (x : Option Daemon × ℕ). reading_of x.1) b.2 in
    let entry : Entry = record { reading = reading_now b.0; input = i; effects = fx } in
    let then : Daemon = with_entry entry now d in
    let runs_then : after.daemon ≡ Some then =
    step_daemon now i fx b.0 ∙ ap (λ (x : Option Daemon × ℕ). option_map (with_entry entry now) x.0) b.2 ∙ ap (option_map (with_entry entry now)) runs in
    record {
      machine = after;
      daemon = then;
      at = changed_there (λ c. after_step (stamp_now v c) i fx c) v (machine_of e) b.0 b.1;
      has = first_on after then runs_then;
      entered = record { setting = refl; trace = ap (λ n. record { reading = n; input = i; effects = fx } ∷ d.trace) clock };
    }

-- ---- what was due then

-- What is due of each daemon at the end was due of it before.
due_before : (d e f : Daemon) (newer : Trace) (reading : ℕ) (i : Input) (fx : Effects) → Entered d e reading i fx → f.setting ≡ e.setting → f.trace ≡ newer ++ e.trace
    → IsHostTrace f.setting f.trace → fx ≡ due d.setting d.trace reading i
due_before d e f newer reading i fx x setting trace host =
    let st : f.setting ≡ d.setting = setting ∙ x.setting in
    let es : f.trace ≡ newer ++ record { reading = reading; input = i; effects = fx } ∷ d.trace = trace ∙ ap (λ t. newer ++ t) x.trace in
    let each = subst (λ s. IsHostTrace s (newer ++ record { reading = reading; input = i; effects = fx } ∷ d.trace)) st (subst (λ t. IsHostTrace f.setting t) es host) in
    (each_entry-front (IsDue d.setting) newer (record { reading = reading; input = i; effects = fx } ∷ d.trace) each.1).0

due_on : (a : Machine) (d : Daemon) (i : Input) → a.daemon ≡ Some d → due_at a i ≡ due d.setting d.trace (reading_now a) i
due_on a d i runs = ap (λ o. option_map_or (λ (x : Daemon). due x.setting x.trace (reading_now a) i) o no_effects) runs

-- The effects by the input, and what they are on the machine that takes it.
abbrev effects_by : World → Event → Option Input → List Effects
effects_by w e o = elim o [ None ↦ own_effects_of w e ∷ [] | Some i ↦ option_map_or (λ a. due_at a i) (machine_at w (machine_of e)) no_effects ∷ [] ]

step_is_due : (p : Program) (h : Header) (now : List Happening) (x : Happening) (rest : List Happening) (fx : Effects) (i : Input)
    → IsRun (world_with p h) ((now ++ x ∷ []) ++ rest) → EachDaemon IsHostTrace (world_at p h ((now ++ x ∷ []) ++ rest)) → may_happen (world_at p h now) x.0 ≡ true
    → x.1 ≡ fx ∷ [] → input_of (world_at p h now) x.0 ≡ Some i → x.1 ≡ effects_of (world_at p h now) x.0
step_is_due p h now x rest fx i run host may one told =
    let w : World = world_at p h now in
    let on = then_value (input_at w x.0) (machine_at w (machine_of x.0)) i told in
    let d = somebody x.0 w on.0 i may on.1 on.2 in
    let took : TookStep (take_step (machine_of x.0) (Some i) fx (next_step (first_change x.0 w))) (machine_of x.0) d.0 (reading_now on.0) i fx =
    took_step w x.0 on.0 d.0 i fx on.1 d.1 on.2 in
    let after : take_step (machine_of x.0) (Some i) fx (next_step (first_change x.0 w)) ≡ world_at p h (now ++ x ∷ []) =
    ap (λ o. take_step (machine_of x.0) o fx (next_step (first_change x.0 w))) (sym told) ∙ ap (λ fxs. happens w x.0 fxs) (sym one)
    ∙ sym (run_after (world_with p h) now (x ∷ [])) in
    let later : Later (world_at p h ((now ++ x ∷ []) ++ rest)) (machine_of x.0) took.daemon =
    daemon_later p h (now ++ x ∷ []) rest run (machine_of x.0) took.machine took.daemon (ap (λ v. machine_at v (machine_of x.0)) (sym after) ∙ took.at) took.has in
    let last : World = world_at p h ((now ++ x ∷ []) ++ rest) in
    let there = index last (machine_of x.0) later.machine later.at in
    let is_due : fx ≡ due d.0.setting d.0.trace (reading_now on.0) i =
    due_before d.0 took.daemon later.daemon later.goes.trace.newer (reading_now on.0) i fx took.entered later.goes.setting later.goes.trace.same
    (host later.daemon (in_flat daemons_on last.machines later.machine later.daemon
    (got_inside last.machines (machine_of x.0 - 1) later.machine there.1) later.has)) in
    one ∙ ap (λ y. y ∷ []) (is_due ∙ sym (due_on on.0 d.0 i d.1) ∙ sym (ap (λ o. option_map_or (λ a. due_at a i) o no_effects) on.1))
    ∙ sym (ap (effects_by w x.0) told)

effects_are_due : (p : Program) (h : Header) (now : List Happening) (x : Happening) (rest : List Happening) (o : Option Input)
    → IsRun (world_with p h) ((now ++ x ∷ []) ++ rest) → EachDaemon IsHostTrace (world_at p h ((now ++ x ∷ []) ++ rest)) → may_happen (world_at p h now) x.0 ≡ true
    → HasOneStep (world_at p h now) x.0 x.1 → input_of (world_at p h now) x.0 ≡ o → x.1 ≡ effects_of (world_at p h now) x.0
effects_are_due p h now x rest None run host may one told =
    one.one ∙ ap (λ y. y ∷ []) (one.own told) ∙ sym (ap (effects_by (world_at p h now) x.0) told)
effects_are_due p h now x rest (Some i) run host may one told = step_is_due p h now x rest one.effects i run host may one.one told

-- ---- the run

-- From each front of a run on, it does what is due.
pub does_from : (p : Program) (h : Header) (now xs : List Happening) → IsRun (world_with p h) (now ++ xs) → EachDaemon IsHostTrace (world_at p h (now ++ xs))
    → DoesWhatIsDue (world_at p h now) xs
does_from p h now [] run host = tt
does_from p h now (x ∷ rest) run host =
    let w : World = world_at p h now in
    let same : (now ++ x ∷ []) ++ rest ≡ now ++ x ∷ rest = next_before now x rest in
    let run_again : IsRun (world_with p h) ((now ++ x ∷ []) ++ rest) = subst (λ xs. IsRun (world_with p h) xs) (sym same) run in
    let host_again : EachDaemon IsHostTrace (world_at p h ((now ++ x ∷ []) ++ rest)) = subst (λ xs. EachDaemon IsHostTrace (world_at p h xs)) (sym same) host in
    let here = run_rest (world_with p h) now (x ∷ rest) run in
    let one : HasOneStep w x.0 x.1 = one_step w x.0 x.1 here.1 in (
      effects_are_due p h now x rest (input_of w x.0) run_again host_again here.0 one refl,
      subst (λ v. DoesWhatIsDue v rest) (run_after (world_with p h) now (x ∷ [])) (does_from p h (now ++ x ∷ []) rest run_again host_again),
    )
