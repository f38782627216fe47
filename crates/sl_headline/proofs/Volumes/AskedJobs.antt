-- The ask that has no reply yet is a job of the daemon, whose line is the text of the ask.
use Rattle.sl_area.specs.AreaSizes.{layout_with}
use Rattle.sl_run.specs.Lvm.{Course, Lvm}
use Rattle.sl_run.specs.declared.turn.LvmOut.{LvmOut}
use Rattle.sl_run.specs.LvmLines.{LvmLine}
use Rattle.sl_words.proofs.Options.{mapped_value, then_value}
use Rattle.sl_run.specs.EventChanges.{after_step, first_change, next_step, number_of_step, with_entry}
use Rattle.sl_run.specs.Refusals.{event_tests, may_happen, sectors_left}
use Rattle.sl_run.specs.Inputs.{if_running, input_at, input_of, machine_of, ok_input, rest_sampled}
use Rattle.sl_run.specs.Locks.{Locks, Told, after_turn, left_locks, locks_after, numbered_locks}
use Rattle.sl_run.specs.Runs.{Happening}
use Rattle.sl_run.specs.Safety.{LawfulRun, world_at}
use Rattle.sl_run.specs.Worlds.{Course as MadeCall, Daemon, Machine, Program, Stamp, World, machine_at, machine_of_header, stamp_now}
use Rattle.sl_run.specs.declared.event.Event.TheVariants.{AnswerCall, Crash, Do, DropWrite, ExitOf, GiveAsk, GiveCommand, GiveLvm, Land, Pass, Reset, Restart, Sample, SpawnedOf, StartDaemon, Tear, Test, WakeUp}
use Rattle.sl_run.specs.declared.event.Event.{Event}
use Rattle.sl_run.specs.declared.header.Header.{Header}
use Rattle.sl_run_law.proofs.Course.Daemons.{entry_of, step_daemon}
use Rattle.sl_run_law.proofs.Course.MachinesKeep.{Goes_on, machines_keep}
use Rattle.sl_run_law.proofs.Course.DaemonRuns.{input_there, runs_then}
use Rattle.sl_run_law.proofs.Course.MachineTurns.{Alone, Began, Called, Came_up, Clocked, Crashed, Elsewhere, Stays, Stepped, Tested, Took, Turned, Went_down}
use Rattle.sl_run_law.proofs.Guards.{on_this, passes}
use Rattle.sl_trace.specs.Traces.{Job, Setting, Trace, job_numbered, next_job}
use Rattle.sl_trace.specs.declared.effects.Effects.{Effects}
use Rattle.sl_trace.specs.declared.effects.Entry.{Entry}
use Rattle.sl_trace.specs.declared.effects.Op.TheVariants.{ReadSectors, WriteRecord}
use Rattle.sl_trace.specs.declared.effects.Op.{Op}
use Rattle.sl_trace.specs.declared.input.Answer.TheVariants.{Failed, Read, Written}
use Rattle.sl_trace.specs.declared.input.Input.TheVariants.{Answer as Heard, Exit, Line, Number, Spawned, Wake}
use Rattle.sl_trace.specs.declared.input.Input.{Input}
use Rattle.sl_trace.specs.declared.reply.Reply.{Reply}
use Rattle.sl_headline.proofs.Volumes.JobNumbers.{line_numbered, numbered_stays}
use Rattle.sl_headline.proofs.Volumes.MachineLocks.{MachineHolds, machines_hold, step_locks}
use Rattle.sl_headline.proofs.Volumes.LocksHold.{Line_given, LocksHold, LocksStep, None_given, Reply_given, emptied, left_hold, locks_step}
use Rattle.sl_headline.proofs.Volumes.LockTurns.{Asks_again, HostTurn, LineTurn, Line_compares, Line_gives, Line_moves, Line_takes, Line_told, Line_writes, Moved, Read_none, Read_torn, Read_value, Released, Took_lock, Took_to_read, Wrote_none, Wrote_value}
use Rattle.sl_headline.specs.Volumes.LockAsks.{IsAskOf}
use Rattle.sl_words.proofs.CaseLaws.{none_some, some_value, true_is_false}
use Rattle.sl_words.proofs.WordLaws.{choose_some}
use Rattle.std.proofs.Common.{ap, refl, subst, sym, ◌∙◌}
use Rattle.std.specs.Option.{option_map_or}
use Rattle.std.specs.Prelude.{Bool, List, None, Option, Result, Some, false, if◌then◌else◌, is_some, length, option_and_then, option_map, true, ℕ, ◌||◌, ◌∷◌, ◌≡◌}

-- ---- what is asked

-- The job of this number was read from the ask of the line's course.
abbrev pub IsAskedIn : ℕ → Setting → Trace → Course → ℕ → Type 0
IsAskedIn area st es c n = (text : List ℕ) × (j : Job) × IsAskOf area c text × (job_numbered st es n ≡ Some j) × (j.command ≡ st.read text)

-- So it is of the ask that has no reply yet.
abbrev pub AskedHolds : ℕ → Setting → Trace → Locks → Type 0
AskedHolds area st es k = (c : Course) (n : ℕ) → k.lvm.course ≡ Some c → k.asked ≡ Some n → IsAskedIn area st es c n

-- After a turn none is asked.
abbrev NoneAsked : Locks → Type 0
NoneAsked k = (c : Course) (n : ℕ) → k.lvm.course ≡ Some c → k.asked ≡ Some n → ⊥

line_asks_none : (k : Locks) (m : Lvm) (x : Result LvmLine ℕ) (t : Lvm × LvmOut) → LineTurn m x t → NoneAsked (after_turn k t).0
line_asks_none k m x t (Line_told text is) = subst (λ (y : Lvm × LvmOut). NoneAsked (after_turn k y).0) (sym is) (λ c n at asked. none_some n asked)
line_asks_none k m x t (Line_moves c is) = subst (λ (y : Lvm × LvmOut). NoneAsked (after_turn k y).0) (sym is) (λ d n at asked. none_some n asked)
line_asks_none k m x t (Line_takes l mode read is) = subst (λ (y : Lvm × LvmOut). NoneAsked (after_turn k y).0) (sym is) (λ c n at asked. none_some n asked)
line_asks_none k m x t (Line_compares l mode read is) = subst (λ (y : Lvm × LvmOut). NoneAsked (after_turn k y).0) (sym is) (λ c n at asked. none_some n asked)
line_asks_none k m x t (Line_writes l read is) = subst (λ (y : Lvm × LvmOut). NoneAsked (after_turn k y).0) (sym is) (λ c n at asked. none_some n asked)
line_asks_none k m x t (Line_gives l is) = subst (λ (y : Lvm × LvmOut). NoneAsked (after_turn k y).0) (sym is) (λ c n at asked. none_some n asked)

host_asks_none : (k : Locks) (m : Lvm) (r : Reply) (c : Course) (t : Lvm × LvmOut) → HostTurn m r c t → NoneAsked (after_turn k t).0
host_asks_none k m r c t (Moved is) = subst (λ (y : Lvm × LvmOut). NoneAsked (after_turn k y).0) (sym is) (λ d n at asked. none_some n asked)
host_asks_none k m r c t (Took_to_read l mode again was ok is) = subst (λ (y : Lvm × LvmOut). NoneAsked (after_turn k y).0) (sym is) (λ d n at asked. none_some n asked)
host_asks_none k m r c t (Took_lock l mode again was ok is) = subst (λ (y : Lvm × LvmOut). NoneAsked (after_turn k y).0) (sym is) (λ d n at asked. none_some n asked)
host_asks_none k m r c t (Asks_again l mode again compares was few is) = subst (λ (y : Lvm × LvmOut). NoneAsked (after_turn k y).0) (sym is) (λ d n at asked. none_some n asked)
host_asks_none k m r c t (Read_value l lver seq bytes was told is) = subst (λ (y : Lvm × LvmOut). NoneAsked (after_turn k y).0) (sym is) (λ d n at asked. none_some n asked)
host_asks_none k m r c t (Read_torn l was is) = subst (λ (y : Lvm × LvmOut). NoneAsked (after_turn k y).0) (sym is) (λ d n at asked. none_some n asked)
host_asks_none k m r c t (Read_none l was other is) = subst (λ (y : Lvm × LvmOut). NoneAsked (after_turn k y).0) (sym is) (λ d n at asked. none_some n asked)
host_asks_none k m r c t (Wrote_value l lver seq was told is) = subst (λ (y : Lvm × LvmOut). NoneAsked (after_turn k y).0) (sym is) (λ d n at asked. none_some n asked)
host_asks_none k m r c t (Wrote_none l was is) = subst (λ (y : Lvm × LvmOut). NoneAsked (after_turn k y).0) (sym is) (λ d n at asked. none_some n asked)
host_asks_none k m r c t (Released l refused s was is) = subst (λ (y : Lvm × LvmOut). NoneAsked (after_turn k y).0) (sym is) (λ d n at asked. none_some n asked)

-- ---- a step

-- What was asked before is asked still.
still_asked : (area : ℕ) (st : Setting) (e : Entry) (es : Trace) (k : Locks) → AskedHolds area st es k → AskedHolds area st (e ∷ es) k
still_asked area st e es k h c n at asked = let x = h c n at asked in (x.0, x.1, x.2, numbered_stays st e es n x.1 x.3, x.4)

-- The ask that is given now.
now_asked : (area retries : ℕ) (st : Setting) (es : Trace) (now : ℕ) (text : List ℕ) (fx : Effects) (k : Locks) (o : Option (List ℕ)) → k.due ≡ o → LocksHold area retries k
    → ((ask : List ℕ) → k.due ≡ Some ask → text ≡ ask) → AskedHolds area st es k
    → AskedHolds area st (record { reading = now; input = Line text; effects = fx } ∷ es)
    (elim o as (λ x. Locks) [ None ↦ k | Some ask ↦ record k { asked = Some (next_job st es); due = None } ])
now_asked area retries st es now text fx k None is holds same h = still_asked area st (record { reading = now; input = Line text; effects = fx }) es k h
now_asked area retries st es now text fx k (Some ask) is holds same h =
    λ c n at asked. (
      text,
      record { number = next_job st es; at = length es; reading = now; command = st.read text },
      subst (IsAskOf area c) (sym (same ask is)) (holds.asks c ask at is),
      subst (λ m. job_numbered st (record { reading = now; input = Line text; effects = fx } ∷ es) m
          ≡ Some (record { number = next_job st es; at = length es; reading = now; command = st.read text }))
          (some_value (next_job st es) n asked) (line_numbered st es now text fx),
      refl,
    )

-- The line that comes where an ask is due is the ask.
abbrev pub GivesAsk : Input → Locks → Type 0
GivesAsk i k = (text ask : List ℕ) → i ≡ Line text → k.due ≡ Some ask → text ≡ ask

pub numbered_asked : (area retries : ℕ) (st : Setting) (es : Trace) (now : ℕ) (i : Input) (fx : Effects) (k : Locks) → LocksHold area retries k → GivesAsk i k
    → AskedHolds area st es k
    → AskedHolds area st (record { reading = now; input = i; effects = fx } ∷ es) (numbered_locks (next_job st es) i k)
numbered_asked area retries st es now (Line text) fx k holds gives h = now_asked area retries st es now text fx k k.due refl holds (λ ask is. gives text ask refl is) h
numbered_asked area retries st es now (Number text) fx k holds gives h = still_asked area st (record { reading = now; input = Number text; effects = fx }) es k h
numbered_asked area retries st es now (Heard n answer) fx k holds gives h = still_asked area st (record { reading = now; input = Heard n answer; effects = fx }) es k h
numbered_asked area retries st es now Wake fx k holds gives h = still_asked area st (record { reading = now; input = Wake; effects = fx }) es k h
numbered_asked area retries st es now (Exit p) fx k holds gives h = still_asked area st (record { reading = now; input = Exit p; effects = fx }) es k h
numbered_asked area retries st es now (Spawned p ok) fx k holds gives h = still_asked area st (record { reading = now; input = Spawned p ok; effects = fx }) es k h

turn_asked : (area : ℕ) (st : Setting) (es : Trace) (i : Input) (fx : Effects) (k : Locks) (q : Locks × Told) → LocksStep i fx k q → AskedHolds area st es k
    → AskedHolds area st es q.0
turn_asked area st es i fx k q (Line_given text t is turn same) h =
    subst (λ (p : Locks × Told). AskedHolds area st es p.0) (sym same) (λ c n at asked. absurd (line_asks_none k k.lvm _ t turn c n at asked))
turn_asked area st es i fx k q (Reply_given n a c t asked found at turn same) h =
    subst (λ (p : Locks × Told). AskedHolds area st es p.0) (sym same) (λ d m there was. absurd (host_asks_none k k.lvm a.reply c t turn d m there was))
turn_asked area st es i fx k q (None_given same) h = subst (λ (p : Locks × Told). AskedHolds area st es p.0) (sym same) h

if_ends : (area : ℕ) (st : Setting) (es : Trace) (k : Locks) (t : Bool) → AskedHolds area st es k → AskedHolds area st es (if t then emptied k else k)
if_ends area st es k true h = h
if_ends area st es k false h = h

step_asked : (area retries : ℕ) (st : Setting) (es : Trace) (now : ℕ) (i : Input) (fx : Effects) (k : Locks) → LocksHold area retries k → GivesAsk i k → AskedHolds area st es k
    → AskedHolds area st (record { reading = now; input = i; effects = fx } ∷ es) (locks_after (next_job st es) i fx k).0
step_asked area retries st es now i fx k holds gives h =
    let e : Entry = record { reading = now; input = i; effects = fx } in
    let s = locks_step (next_job st es) i fx k in
    subst (AskedHolds area st (e ∷ es)) (sym s.same)
    (if_ends area st (e ∷ es) s.turn.0 s.ends
    (turn_asked area st (e ∷ es) i fx (numbered_locks (next_job st es) i (left_locks fx k)) s.turn s.step
    (numbered_asked area retries st es now i fx (left_locks fx k) (left_hold area retries fx k holds) gives h)))

-- ---- which lines events bring

not_line : (n : ℕ) (f : MadeCall) (op : Op) (text : List ℕ) (w : World)
    → elim op as (λ x. Input) [ ReadSectors k ↦ Heard n (Read (rest_sampled w f (sectors_left f))) | WriteRecord r ↦ Heard n Written ] ≡ Line text → ⊥
not_line n f (ReadSectors k) text w h = cc
not_line n f (WriteRecord r) text w h = cc

not_line_told : (n : ℕ) (f : MadeCall) (op : Op) (text : List ℕ)
    → elim op as (λ x. Input) [ ReadSectors k ↦ Heard n (Read f.sampled) | WriteRecord r ↦ Heard n Written ] ≡ Line text → ⊥
not_line_told n f (ReadSectors k) text h = cc
not_line_told n f (WriteRecord r) text h = cc

answer_is_none : (c : ℕ) (f : MadeCall) (ok : Bool) (text : List ℕ) → elim ok as (λ x. Input) [ true ↦ ok_input f | false ↦ Heard c Failed ] ≡ Line text → ⊥
answer_is_none c f true text h = not_line_told f.call.number f f.call.op text h
answer_is_none c f false text h = cc

line_value : (a b : List ℕ) → Line a ≡ Line b → a ≡ b
line_value a b h = cc

given_text : (a : Machine) (s text : List ℕ) → if_running a (Line s) ≡ Some (Line text) → s ≡ text
given_text a s text h = line_value s text (choose_some (is_some a.daemon) (Line s) (Line text) h).1

other_input : (a : Machine) (j : Input) (text : List ℕ) → if_running a j ≡ Some (Line text) → j ≡ Line text
other_input a j text h = (choose_some (is_some a.daemon) j (Line text) h).1

no_or : (a b : Bool) → (a || b) ≡ false → b ≡ false
no_or true b h = absurd (true_is_false h)
no_or false b h = h

due_is_some : (o : Option (List ℕ)) (ask : List ℕ) → o ≡ Some ask → is_some o ≡ false → ⊥
due_is_some o ask is none = true_is_false (sym (ap is_some is) ∙ none)

line_given : (e : Event) (w : World) (a : Machine) (text ask : List ℕ) → may_happen w e ≡ true → machine_at w (machine_of e) ≡ Some a → input_at w e a ≡ Some (Line text)
    → a.locks.due ≡ Some ask → text ≡ ask
unfolding event_tests
line_given (GiveCommand m s) w a text ask may at h due =
    absurd (due_is_some a.locks.due ask due (no_or _ (is_some a.locks.due) (on_this w m _ a at (passes w (GiveCommand m s) may)).1.0))
line_given (GiveAsk m) w a text ask may at h due =
    let s = then_value (λ t. if_running a (Line t)) a.locks.due (Line text) h in
    sym (given_text a s.0 text s.2) ∙ some_value s.0 ask (sym s.1 ∙ due)
line_given (WakeUp m) w a text ask may at h due = absurd (let x = other_input a Wake text h in cc)
line_given (GiveLvm m s) w a text ask may at h due = absurd (let x = other_input a (Number s) text h in cc)
line_given (ExitOf m p) w a text ask may at h due = absurd (let x = other_input a (Exit p) text h in cc)
line_given (SpawnedOf m p ok) w a text ask may at h due = absurd (let x = other_input a (Spawned p ok) text h in cc)
line_given (AnswerCall m c ok) w a text ask may at h due = let f = mapped_value _ _ (Line text) h in absurd (answer_is_none c f.0 ok text f.2)
line_given (Do m c) w a text ask may at h due = let f = mapped_value _ _ (Line text) h in absurd (not_line f.0.call.number f.0 f.0.call.op text w f.2)
line_given (Pass x g) w a text ask may at h due = absurd (none_some (Line text) h)
line_given (Sample m c k) w a text ask may at h due = absurd (none_some (Line text) h)
line_given (Land m c) w a text ask may at h due = absurd (none_some (Line text) h)
line_given (Tear m c k bytes) w a text ask may at h due = absurd (none_some (Line text) h)
line_given (DropWrite m c) w a text ask may at h due = absurd (none_some (Line text) h)
line_given (Test m) w a text ask may at h due = absurd (none_some (Line text) h)
line_given (StartDaemon m name) w a text ask may at h due = absurd (none_some (Line text) h)
line_given (Crash m) w a text ask may at h due = absurd (none_some (Line text) h)
line_given (Reset m) w a text ask may at h due = absurd (none_some (Line text) h)
line_given (Restart m) w a text ask may at h due = absurd (none_some (Line text) h)

-- ---- machines

-- The ask of a machine is a job of its daemon.
abbrev pub MachineAsks : Header → Machine → Type 0
MachineAsks h a = (d : Daemon) → a.daemon ≡ Some d → AskedHolds h.geometry.area d.setting d.trace a.locks

no_daemon : (o : Option Daemon) (d : Daemon) → o ≡ None → o ≡ Some d → ⊥
no_daemon o d none is = none_some d (sym none ∙ is)

-- The daemon and its locks before a step.
abbrev seen : Machine → Option Daemon × Locks
seen a = (a.daemon, a.locks)

same_asks : (h : Header) (a b : Machine) → seen b ≡ seen a → MachineAsks h a → MachineAsks h b
same_asks h a b same k d is =
    subst (AskedHolds h.geometry.area d.setting d.trace) (sym (ap (λ (x : Option Daemon × Locks). x.1) same)) (k d (sym (ap (λ (x : Option Daemon × Locks). x.0) same) ∙ is))

turned_asks : (h : Header) (w : World) (e : Event) (m : ℕ) (a b : Machine) → Turned w e m a b → MachineAsks h a → MachineAsks h b
turned_asks h w e m a b (Stays is) k = same_asks h a b (ap seen is) k
turned_asks h w e m a b (Clocked n is) k = same_asks h a b (ap seen is) k
turned_asks h w e m a b (Called n f g flight keeps is) k = same_asks h a b (ap seen is) k
turned_asks h w e m a b (Tested s is) k = same_asks h a b (ap seen is) k
turned_asks h w e m a b (Began name event up used fresh is) k =
    λ d runs c n at asked. absurd (none_some c (sym (ap (λ (x : Machine). x.locks.lvm.course) is) ∙ at))
turned_asks h w e m a b (Crashed event is) k = λ d runs. absurd (no_daemon b.daemon d (ap (λ (x : Machine). x.daemon) is) runs)
turned_asks h w e m a b (Went_down event up is) k = λ d runs. absurd (no_daemon b.daemon d (ap (λ (x : Machine). x.daemon) is) runs)
turned_asks h w e m a b (Came_up event down is) k = same_asks h a b (ap seen is) k

-- A start and a reset are no input.
start_is_none : (m : ℕ) (name : List ℕ) (w : World) (o : Option Machine) (i : Input) → option_and_then (input_at w (StartDaemon m name)) o ≡ Some i → ⊥
start_is_none m name w None i h = none_some i h
start_is_none m name w (Some y) i h = none_some i h

starts_none : (w : World) (e : Event) (m : ℕ) (name : List ℕ) (i : Input) → e ≡ StartDaemon m name → input_of w e ≡ Some i → ⊥
starts_none w e m name i is h = start_is_none m name w (machine_at w m) i (subst (λ y. input_of w y ≡ Some i) is h)

reset_is_none : (m : ℕ) (w : World) (o : Option Machine) (i : Input) → option_and_then (input_at w (Reset m)) o ≡ Some i → ⊥
reset_is_none m w None i h = none_some i h
reset_is_none m w (Some y) i h = none_some i h

resets_none : (w : World) (e : Event) (m : ℕ) (i : Input) → e ≡ Reset m → input_of w e ≡ Some i → ⊥
resets_none w e m i is h = reset_is_none m w (machine_at w m) i (subst (λ y. input_of w y ≡ Some i) is h)

-- Where there is an input, the machine has the locks that it had.
pub locks_stay : (w : World) (e : Event) (m : ℕ) (a b : Machine) (i : Input) → input_of w e ≡ Some i → Turned w e m a b → b.locks ≡ a.locks
locks_stay w e m a b i has (Stays is) = ap (λ (x : Machine). x.locks) is
locks_stay w e m a b i has (Clocked n is) = ap (λ (x : Machine). x.locks) is
locks_stay w e m a b i has (Called n f g h k is) = ap (λ (x : Machine). x.locks) is
locks_stay w e m a b i has (Tested s is) = ap (λ (x : Machine). x.locks) is
locks_stay w e m a b i has (Began name event up used fresh is) = absurd (starts_none w e m name i event has)
locks_stay w e m a b i has (Crashed event is) = ap (λ (x : Machine). x.locks) is
locks_stay w e m a b i has (Went_down event up is) = absurd (resets_none w e m i event has)
locks_stay w e m a b i has (Came_up event down is) = ap (λ (x : Machine). x.locks) is

pub gives_ask : (w : World) (e : Event) (m : ℕ) (a b : Machine) (i : Input) → may_happen w e ≡ true → machine_at w m ≡ Some a → m ≡ machine_of e → input_of w e ≡ Some i
    → Turned w e m a b → GivesAsk i b.locks
gives_ask w e m a b i may at here has turned text ask is due =
    line_given e w a text ask may (subst (λ n. machine_at w n ≡ Some a) here at) (input_there w e m a i at here has ∙ ap (λ y. Some y) is)
    (sym (ap (λ (k : Locks). k.due) (locks_stay w e m a b i has turned)) ∙ due)

pub number_is : (b : Machine) (d : Daemon) → b.daemon ≡ Some d → number_of_step b ≡ next_job d.setting d.trace
number_is b d runs = ap (λ o. option_map_or (λ (x : Daemon). next_job x.setting x.trace) o 0) runs

-- After the step of a daemon.
took_asks : (h : Header) (now : Stamp) (i : Input) (fx : Effects) (b : Machine) (d : Daemon) → b.daemon ≡ Some d → MachineHolds h b → GivesAsk i b.locks → MachineAsks h b
    → MachineAsks h (after_step now i fx b)
took_asks h now i fx b d runs holds gives k e is =
    let entered : with_entry (entry_of i fx b) now d ≡ e =
    some_value (with_entry (entry_of i fx b) now d) e (sym (step_daemon now i fx b ∙ ap (option_map (with_entry (entry_of i fx b) now)) runs) ∙ is) in
    subst (λ (y : Daemon). AskedHolds h.geometry.area y.setting y.trace (after_step now i fx b).locks) entered
    (subst (AskedHolds h.geometry.area d.setting (entry_of i fx b ∷ d.trace)) (sym (step_locks now i fx b ∙ ap (λ n. (locks_after n i fx b.locks).0) (number_is b d runs)))
    (step_asked h.geometry.area h.retries d.setting d.trace (entry_of i fx b).reading i fx b.locks holds gives (k d runs)))

-- The locks before a step hold as those before the event.
pub middle_holds : (p : Program) (h : Header) (now : List Happening) (x : Happening) (m : ℕ) (a c : Machine) (g : Goes_on p h now x m a c) (i : Input)
    → input_of (world_at p h now) x.0 ≡ Some i → MachineHolds h g.becomes.middle
middle_holds p h now x m a c g i has =
    subst (LocksHold h.geometry.area h.retries) (sym (locks_stay (world_at p h now) x.0 m a g.becomes.middle i has g.becomes.turned)) (machines_hold p h now g.before m a g.at)

stepped_asks : (p : Program) (h : Header) (now : List Happening) (x : Happening) (m : ℕ) (a c : Machine) (g : Goes_on p h now x m a c)
    → Stepped (world_at p h now) x.0 g.effects m g.becomes.middle c → MachineAsks h g.becomes.middle → MachineAsks h c
stepped_asks p h now x m a c g (Elsewhere is) k = subst (MachineAsks h) (sym is) k
stepped_asks p h now x m a c g (Alone none here is) k = subst (MachineAsks h) (sym is) k
stepped_asks p h now x m a c g (Took i has here is) k =
    let w : World = world_at p h now in
    let b : Machine = g.becomes.middle in
    let d = runs_then w x.0 m a b i g.may g.at here has g.becomes.turned in
    subst (MachineAsks h) (sym is)
    (took_asks h (stamp_now (next_step (first_change x.0 w)) b) i g.effects b d.0 d.1 (middle_holds p h now x m a c g i has)
    (gives_ask w x.0 m a b i g.may g.at here has g.becomes.turned) k)

keeps : (p : Program) (h : Header) (now : List Happening) (x : Happening) (m : ℕ) (a c : Machine) → Goes_on p h now x m a c → MachineAsks h a → MachineAsks h c
keeps p h now x m a c g k = stepped_asks p h now x m a c g g.becomes.stepped (turned_asks h (world_at p h now) x.0 m a g.becomes.middle g.becomes.turned k)

first : (p : Program) (h : Header) (m : ℕ) → MachineAsks h (machine_of_header p (layout_with p.digest h.geometry) h m)
unfolding machine_of_header
first p h m d runs c n at asked = absurd (none_some c at)

pub machines_ask : (p : Program) (h : Header) (xs : List Happening) → LawfulRun p h xs → (m : ℕ) (a : Machine) → machine_at (world_at p h xs) m ≡ Some a → MachineAsks h a
machines_ask p h xs run m a at = machines_keep p h (λ w n. MachineAsks h) (first p h) (keeps p h) xs run m a at
