-- A version becomes known by the host's reply to a read or a write of a group's value.
use Rattle.sl_run.specs.LockNames.{Lock, group_lock, resource_of}
use Rattle.sl_run.specs.Lvm.{Course, Lvm, Reading, SeenValue, Writing, lock_process}
use Rattle.sl_run.specs.LvmLines.{LvmLine}
use Rattle.sl_run.specs.declared.turn.LvmOut.TheVariants.{Ask, Quiet, Reply as LineReply}
use Rattle.sl_run.specs.declared.turn.LvmOut.{LvmOut}
use Rattle.sl_words.proofs.Lists.{contains_cases, contains_first, contains_none, find_inside, kept_inside, next_before}
use Rattle.sl_run.specs.EventChanges.{after_step, first_change, next_step, number_of_step, with_entry}
use Rattle.sl_run.specs.Inputs.{input_of, machine_of}
use Rattle.sl_run.specs.Locks.{Locks, Told, after_turn, left_locks, locks_after, numbered_locks}
use Rattle.sl_run.specs.Runs.{Happening}
use Rattle.sl_run.specs.Safety.{world_at}
use Rattle.sl_run.specs.Worlds.{Daemon, Machine, Program, Stamp, World, daemons_on, machine_at, machine_of_header, stamp_now}
use Rattle.sl_run.specs.declared.header.Header.{Header}
use Rattle.sl_run_law.proofs.Course.Daemons.{daemons_are, entry_of, step_daemon}
use Rattle.sl_run_law.proofs.Course.MachinesKeep.{Goes_on, header_machine, was_before}
use Rattle.sl_run_law.proofs.Course.DaemonRuns.{daemon_stays, runs_then}
use Rattle.sl_run_law.proofs.Course.MachineTurns.{Alone, Elsewhere, Stepped, Took}
use Rattle.sl_area.specs.AreaSizes.{layout_with}
use Rattle.sl_trace.specs.CommandForms.{command_in}
use Rattle.sl_trace.specs.Traces.{Setting, Trace, next_job}
use Rattle.sl_trace.specs.declared.command.Command.TheVariants.{GetLvb, SetLvb}
use Rattle.sl_trace.specs.declared.command.Command.{Command}
use Rattle.sl_trace.specs.declared.effects.Effects.{Effects}
use Rattle.sl_trace.specs.declared.effects.Entry.{Entry}
use Rattle.sl_trace.specs.declared.effects.JobReply.{JobReply}
use Rattle.sl_trace.specs.declared.input.Input.{Input}
use Rattle.sl_trace.specs.declared.reply.Reply.TheVariants.{Value, ValueSet}
use Rattle.sl_trace.specs.declared.reply.Reply.{Reply}
use Rattle.sl_headline.proofs.Volumes.AskedJobs.{AskedHolds, gives_ask, locks_stay, machines_ask, middle_holds, number_is, numbered_asked}
use Rattle.sl_headline.proofs.Volumes.EntriesAtFronts.{answered_front, daemon_reads}
use Rattle.sl_headline.proofs.Volumes.MachineLocks.{LocksTurn, MachineHolds, New_locks, Same_locks, locks_turn, step_locks}
use Rattle.sl_headline.proofs.Volumes.LocksHold.{Line_given, LocksHold, LocksStep, None_given, Reply_given, emptied, left_hold, locks_step, numbered_hold, numbered_lvm}
use Rattle.sl_headline.proofs.Volumes.LockTurns.{Asks_again, HostTurn, LineTurn, Line_compares, Line_gives, Line_moves, Line_takes, Line_told, Line_writes, Moved, Read_none, Read_torn, Read_value, Released, Took_lock, Took_to_read, Wrote_none, Wrote_value}
use Rattle.sl_headline.specs.Volumes.LockAsks.{IsFairCourse, asked_command}
use Rattle.sl_headline.specs.Volumes.FittingRuns.{AnsweredRun, IsJobOf, ReadsAsks}
use Rattle.sl_headline.specs.Volumes.VersionsWereTold.{TellsVersion, VersionsWereTold, WasTold}
use Rattle.std.proofs.Common.{ap, inl, inr, refl, subst, sym, ◌∙◌}
use Rattle.std.proofs.lemmas.Bool.{eqb-true}
use Rattle.std.proofs.lemmas.List.{append-nil, append_assoc}
use Rattle.std.specs.Prelude.{Bool, Contains, List, Result, Some, bytes_eq, false, filter, find, if◌then◌else◌, not, option_map, true, [], ℕ, ◌++◌, ◌==◌, ◌∷◌, ◌≡◌, ◌⊎◌}

-- ---- which versions are new

-- The reply tells the version to a line that has come so far.
abbrev Learns : Reply → Course → SeenValue → Type 0
Learns r c v =
    ((l : Lock) × (bytes : List ℕ) × (c ≡ Reading l) × (v.group ≡ l.group) × (r ≡ Value v.lver v.seq bytes))
    ⊎ ((l : Lock) × (c ≡ Writing l) × (v.group ≡ l.group) × (r ≡ ValueSet v.lver v.seq))

abbrev KnownOrLearned : Lvm → Reply → Course → SeenValue → Type 0
KnownOrLearned m r c v = Contains m.seen v ⊎ Learns r c v

abbrev version : List ℕ → ℕ → ℕ → SeenValue
version group lver seq = record { group = group; lver = lver; seq = seq }

others : (m : Lvm) (group : List ℕ) (v : SeenValue) → Contains (filter (λ (u : SeenValue). not (bytes_eq u.group group)) m.seen) v → Contains m.seen v
others m group v has = (kept_inside (λ (u : SeenValue). not (bytes_eq u.group group)) m.seen v has).0

read_now : (m : Lvm) (r : Reply) (c : Course) (l : Lock) (lver seq : ℕ) (bytes : List ℕ) (v : SeenValue) → c ≡ Reading l → r ≡ Value lver seq bytes
    → Contains (version l.group lver seq ∷ filter (λ (u : SeenValue). not (bytes_eq u.group l.group)) m.seen) v → KnownOrLearned m r c v
read_now m r c l lver seq bytes v was told has =
    elim (contains_cases (version l.group lver seq) (filter (λ (u : SeenValue). not (bytes_eq u.group l.group)) m.seen) v has) as (λ z. KnownOrLearned m r c v) [
      | inl is ↦ inr (inl (l, bytes, was, sym (ap (λ (u : SeenValue). u.group) is), told ∙ ap (λ (u : SeenValue). Value u.lver u.seq bytes) is))
      | inr old ↦ inl (others m l.group v old)
    ]

wrote_now : (m : Lvm) (r : Reply) (c : Course) (l : Lock) (lver seq : ℕ) (v : SeenValue) → c ≡ Writing l → r ≡ ValueSet lver seq
    → Contains (version l.group lver seq ∷ filter (λ (u : SeenValue). not (bytes_eq u.group l.group)) m.seen) v → KnownOrLearned m r c v
wrote_now m r c l lver seq v was told has =
    elim (contains_cases (version l.group lver seq) (filter (λ (u : SeenValue). not (bytes_eq u.group l.group)) m.seen) v has) as (λ z. KnownOrLearned m r c v) [
      | inl is ↦ inr (inr (l, was, sym (ap (λ (u : SeenValue). u.group) is), told ∙ ap (λ (u : SeenValue). ValueSet u.lver u.seq) is))
      | inr old ↦ inl (others m l.group v old)
    ]

new_by : (m : Lvm) (r : Reply) (c : Course) (t : Lvm × LvmOut) (v : SeenValue) → HostTurn m r c t → Contains t.0.seen v → KnownOrLearned m r c v
new_by m r c t v (Moved is) has = inl (subst (λ (y : Lvm × LvmOut). Contains y.0.seen v) is has)
new_by m r c t v (Took_to_read lock mode again was ok is) has = inl (subst (λ (y : Lvm × LvmOut). Contains y.0.seen v) is has)
new_by m r c t v (Took_lock lock mode again was ok is) has = inl (subst (λ (y : Lvm × LvmOut). Contains y.0.seen v) is has)
new_by m r c t v (Asks_again lock mode again compares was few is) has = inl (subst (λ (y : Lvm × LvmOut). Contains y.0.seen v) is has)
new_by m r c t v (Read_value l lver seq bytes was told is) has = read_now m r c l lver seq bytes v was told (subst (λ (y : Lvm × LvmOut). Contains y.0.seen v) is has)
new_by m r c t v (Read_torn l was is) has = inl (others m l.group v (subst (λ (y : Lvm × LvmOut). Contains y.0.seen v) is has))
new_by m r c t v (Read_none l was other is) has = inl (others m l.group v (subst (λ (y : Lvm × LvmOut). Contains y.0.seen v) is has))
new_by m r c t v (Wrote_value l lver seq was told is) has = wrote_now m r c l lver seq v was told (subst (λ (y : Lvm × LvmOut). Contains y.0.seen v) is has)
new_by m r c t v (Wrote_none l was is) has = inl (others m l.group v (subst (λ (y : Lvm × LvmOut). Contains y.0.seen v) is has))
new_by m r c t v (Released lock refused s was is) has = inl (subst (λ (y : Lvm × LvmOut). Contains y.0.seen v) is has)

pub line_seen : (m : Lvm) (x : Result LvmLine ℕ) (t : Lvm × LvmOut) → LineTurn m x t → t.0.seen ≡ m.seen
line_seen m x t (Line_told text is) = ap (λ (y : Lvm × LvmOut). y.0.seen) is
line_seen m x t (Line_moves c is) = ap (λ (y : Lvm × LvmOut). y.0.seen) is
line_seen m x t (Line_takes l mode read is) = ap (λ (y : Lvm × LvmOut). y.0.seen) is
line_seen m x t (Line_compares l mode read is) = ap (λ (y : Lvm × LvmOut). y.0.seen) is
line_seen m x t (Line_writes l read is) = ap (λ (y : Lvm × LvmOut). y.0.seen) is
line_seen m x t (Line_gives l is) = ap (λ (y : Lvm × LvmOut). y.0.seen) is

pub turn_lvm : (k : Locks) (m : Lvm) (o : LvmOut) → (after_turn k (m, o)).0.lvm ≡ m
turn_lvm k m (Ask text) = refl
turn_lvm k m (LineReply text) = refl
turn_lvm k m Quiet = refl

-- A reply by which a version became known.
record LearnsIn (fx : Effects) (k : Locks) (v : SeenValue) : Type 0 where
  number : ℕ
  reply : JobReply
  course : Course
  asked : k.asked ≡ Some number
  found : find (λ (b : JobReply). b.job == number) fx.replies ≡ Some reply
  at : k.lvm.course ≡ Some course
  learned : Learns reply.reply course v

step_learns : (i : Input) (fx : Effects) (k : Locks) (q : Locks × Told) (v : SeenValue) → LocksStep i fx k q → Contains q.0.lvm.seen v → Contains k.lvm.seen v ⊎ LearnsIn fx k v
step_learns i fx k q v (Line_given text t is turn same) has =
    let seen : q.0.lvm.seen ≡ k.lvm.seen = ap (λ (p : Locks × Told). p.0.lvm.seen) same ∙ ap (λ (m : Lvm). m.seen) (turn_lvm k t.0 t.1) ∙ line_seen k.lvm _ t turn in
    inl (subst (λ vs. Contains vs v) seen has)
step_learns i fx k q v (Reply_given n a c t asked found at turn same) has =
    let seen : q.0.lvm.seen ≡ t.0.seen = ap (λ (p : Locks × Told). p.0.lvm.seen) same ∙ ap (λ (m : Lvm). m.seen) (turn_lvm k t.0 t.1) in
    elim (new_by k.lvm a.reply c t v turn (subst (λ vs. Contains vs v) seen has)) as (λ z. Contains k.lvm.seen v ⊎ LearnsIn fx k v) [
      | inl old ↦ inl old
      | inr new ↦ inr (record { number = n; reply = a; course = c; asked = asked; found = found; at = at; learned = new })
    ]
step_learns i fx k q v (None_given same) has = inl (subst (λ (p : Locks × Told). Contains p.0.lvm.seen v) same has)

if_ends : (k : Locks) (t : Bool) (v : SeenValue) → Contains (if t then emptied k else k).lvm.seen v → Contains k.lvm.seen v
if_ends k true v has = absurd (contains_none v has)
if_ends k false v has = has

after_learns : (number : ℕ) (i : Input) (fx : Effects) (k : Locks) (v : SeenValue) → Contains (locks_after number i fx k).0.lvm.seen v
    → Contains k.lvm.seen v ⊎ LearnsIn fx (numbered_locks number i (left_locks fx k)) v
after_learns number i fx k v has =
    let s = locks_step number i fx k in
    elim (step_learns i fx (numbered_locks number i (left_locks fx k)) s.turn v s.step (if_ends s.turn.0 s.ends v (subst (λ (y : Locks). Contains y.lvm.seen v) s.same has)))
    as (λ z. Contains k.lvm.seen v ⊎ LearnsIn fx (numbered_locks number i (left_locks fx k)) v) [
      | inl old ↦ inl (subst (λ (m : Lvm). Contains m.seen v) (numbered_lvm number i (left_locks fx k)) old)
      | inr new ↦ inr new
    ]

-- ---- what told them

-- The job of the ask has its command.
pub asked_job : (p : Program) (h : Header) → ReadsAsks p h → (st : Setting) (es : Trace) → st.read ≡ command_in (p.commands h) → (k : Locks)
    → LocksHold h.geometry.area h.retries k → AskedHolds h.geometry.area st es k → (course : Course) (n : ℕ) (c : Command) → k.lvm.course ≡ Some course → k.asked ≡ Some n
    → asked_command h.geometry.area course ≡ Some c → IsJobOf st es n c
asked_job p h reads st es read k holds asks course n c at asked is =
    let ask = asks course n at asked in (
      ask.1,
      ask.3,
      ask.4 ∙ ap (λ f. f ask.0) read ∙ ap (λ s. command_in (p.commands h) s) (ask.2 c is) ∙ reads course c (holds.fair course at) is,
    )

same_resource : (area : ℕ) (l : Lock) (group : List ℕ) → l ≡ group_lock l.group → group ≡ l.group → resource_of area l ≡ resource_of area (group_lock group)
same_resource area l group own is = ap (λ k. resource_of area k) own ∙ ap (λ g. resource_of area (group_lock g)) (sym is)

tells : (p : Program) (h : Header) → ReadsAsks p h → (st : Setting) (es : Trace) → st.read ≡ command_in (p.commands h) → (fx : Effects) (k : Locks)
    → LocksHold h.geometry.area h.retries k → AskedHolds h.geometry.area st es k → (v : SeenValue) → (t : LearnsIn fx k v)
    → TellsVersion h.geometry.area st es t.reply v.group v.lver v.seq
tells p h reads st es read fx k holds asks v t = by t.learned where
  area : ℕ
  area = h.geometry.area

  named : t.number ≡ t.reply.job
  named = sym (eqb-true t.reply.job t.number (find_inside (λ (b : JobReply). b.job == t.number) fx.replies t.reply t.found).1)

  by : Learns t.reply.reply t.course v → TellsVersion area st es t.reply v.group v.lver v.seq
  by (inl (l, bytes, was, group, told)) =
      let at : k.lvm.course ≡ Some (Reading l) = t.at ∙ ap (λ c. Some c) was in
      let fair : IsFairCourse area h.retries (Reading l) = holds.fair (Reading l) at in
      let job = asked_job p h reads st es read k holds asks (Reading l) t.number (GetLvb (resource_of area l) lock_process) at t.asked refl in
      inl (
        bytes,
        subst (λ n. IsJobOf st es n (GetLvb (resource_of area (group_lock v.group)) lock_process)) named
            (subst (λ r. IsJobOf st es t.number (GetLvb r lock_process)) (same_resource area l v.group fair.1 group) job),
        told,
      )
  by (inr (l, was, group, told)) =
      let at : k.lvm.course ≡ Some (Writing l) = t.at ∙ ap (λ c. Some c) was in
      let fair : IsFairCourse area h.retries (Writing l) = holds.fair (Writing l) at in
      let job = asked_job p h reads st es read k holds asks (Writing l) t.number (SetLvb (resource_of area l) lock_process (1 ∷ [])) at t.asked refl in
      inr (
        subst (λ n. IsJobOf st es n (SetLvb (resource_of area (group_lock v.group)) lock_process (1 ∷ []))) named
            (subst (λ r. IsJobOf st es t.number (SetLvb r lock_process (1 ∷ []))) (same_resource area l v.group fair.1 group) job),
        told,
      )

-- ---- the event

abbrev AllTold : Program → Header → List Happening → Type 0
AllTold p h xs = (m : ℕ) (a : Machine) (v : SeenValue) → machine_at (world_at p h xs) m ≡ Some a → Contains a.locks.lvm.seen v → WasTold p h xs m v

later : (p : Program) (h : Header) (now : List Happening) (x : Happening) (m : ℕ) (v : SeenValue) → WasTold p h now m v → WasTold p h (now ++ x ∷ []) m v
later p h now x m v t =
    record { now = t.now; rest = t.rest ++ x ∷ []; whole = ap (λ ys. ys ++ x ∷ []) t.whole ∙ append_assoc t.now t.rest (x ∷ []); told = t.told }

took : (p : Program) (h : Header) (now : List Happening) (x : Happening) (m : ℕ) (a c : Machine) → AnsweredRun p h (now ++ x ∷ []) → (g : Goes_on p h now x m a c) (i : Input)
    → input_of (world_at p h now) x.0 ≡ Some i → m ≡ machine_of x.0
    → c ≡ after_step (stamp_now (next_step (first_change x.0 (world_at p h now))) g.becomes.middle) i g.effects g.becomes.middle
    → AllTold p h now → (v : SeenValue) → Contains c.locks.lvm.seen v → WasTold p h (now ++ x ∷ []) m v
took p h now x m a c r g i has here is before v there =
    let w : World = world_at p h now in
    let b : Machine = g.becomes.middle in
    let stamp : Stamp = stamp_now (next_step (first_change x.0 w)) b in
    let fx : Effects = g.effects in
    let area : ℕ = h.geometry.area in
    let d = runs_then w x.0 m a b i g.may g.at here has g.becomes.turned in
    let e : Entry = entry_of i fx b in
    let after : Daemon = with_entry e stamp d.0 in
    let runs : c.daemon ≡ Some after = ap (λ (y : Machine). y.daemon) is ∙ step_daemon stamp i fx b ∙ ap (option_map (with_entry e stamp)) d.1 in
    let on : Contains (daemons_on c) after = subst (λ ds. Contains ds after) (sym (daemons_are c after runs)) (contains_first after c.ended) in
    let holds : MachineHolds h b = middle_holds p h now x m a c g i has in
    let stays : b.locks ≡ a.locks = locks_stay w x.0 m a b i has g.becomes.turned in
    let asks : AskedHolds area d.0.setting d.0.trace b.locks =
    subst (AskedHolds area d.0.setting d.0.trace) (sym stays)
    (machines_ask p h now g.before m a g.at d.0 (sym (daemon_stays w x.0 m a b i has g.becomes.turned) ∙ d.1)) in
    let number : number_of_step b ≡ next_job d.0.setting d.0.trace = number_is b d.0 d.1 in
    let locks : c.locks ≡ (locks_after (next_job d.0.setting d.0.trace) i fx b.locks).0 =
    ap (λ (y : Machine). y.locks) is ∙ step_locks stamp i fx b ∙ ap (λ n. (locks_after n i fx b.locks).0) number in
    let left : Locks = left_locks fx b.locks in
    let k : Locks = numbered_locks (next_job d.0.setting d.0.trace) i left in
    elim (after_learns (next_job d.0.setting d.0.trace) i fx b.locks v (subst (λ (y : Locks). Contains y.lvm.seen v) locks there))
    as (λ z. WasTold p h (now ++ x ∷ []) m v) [
      | inl old ↦ later p h now x m v (before m a v g.at (subst (λ (y : Locks). Contains y.lvm.seen v) stays old))
      | inr t ↦ record {
        now = now ++ x ∷ [];
        rest = [];
        whole = sym (append-nil (now ++ x ∷ []));
        told = record {
          machine = c;
          daemon = after;
          entry = e;
          past = d.0.trace;
          reply = t.reply;
          there = (g.later, runs, refl);
          given = (find_inside (λ (y : JobReply). y.job == t.number) fx.replies t.reply t.found).0;
          tells = tells p h r.reads d.0.setting (e ∷ d.0.trace) (daemon_reads p h (now ++ x ∷ []) r.run m c after g.later on) fx k
              (numbered_hold area h.retries (next_job d.0.setting d.0.trace) i left (left_hold area h.retries fx b.locks holds))
              (numbered_asked area h.retries d.0.setting d.0.trace e.reading i fx left (left_hold area h.retries fx b.locks holds) (gives_ask w x.0 m a b i g.may g.at here has g.becomes.turned) asks) v t;
        };
      }
    ]

turned_seen : (h : Header) (a b : Machine) (v : SeenValue) → LocksTurn h a b → Contains b.locks.lvm.seen v → Contains a.locks.lvm.seen v
turned_seen h a b v (Same_locks is) has = subst (λ (k : Locks). Contains k.lvm.seen v) is has
turned_seen h a b v (New_locks is) has = absurd (contains_none v (subst (λ (k : Locks). Contains k.lvm.seen v) is has))

stepped : (p : Program) (h : Header) (now : List Happening) (x : Happening) (m : ℕ) (a c : Machine) → AnsweredRun p h (now ++ x ∷ []) → (g : Goes_on p h now x m a c)
    → Stepped (world_at p h now) x.0 g.effects m g.becomes.middle c → AllTold p h now → (v : SeenValue) → Contains c.locks.lvm.seen v → WasTold p h (now ++ x ∷ []) m v
stepped p h now x m a c r g (Elsewhere is) before v there =
    later p h now x m v (before m a v g.at (turned_seen (world_at p h now).header a g.becomes.middle v (locks_turn (world_at p h now) x.0 m a g.becomes.middle g.becomes.turned)
    (subst (λ (y : Machine). Contains y.locks.lvm.seen v) is there)))
stepped p h now x m a c r g (Alone none here is) before v there =
    later p h now x m v (before m a v g.at (turned_seen (world_at p h now).header a g.becomes.middle v (locks_turn (world_at p h now) x.0 m a g.becomes.middle g.becomes.turned)
    (subst (λ (y : Machine). Contains y.locks.lvm.seen v) is there)))
stepped p h now x m a c r g (Took i has here is) before v there = took p h now x m a c r g i has here is before v there

next : (p : Program) (h : Header) (now : List Happening) (x : Happening) → AnsweredRun p h (now ++ x ∷ []) → AllTold p h now → AllTold p h (now ++ x ∷ [])
next p h now x r before m c v at there = let g = was_before p h now x r.run m c at in stepped p h now x m g.0 c r g.1 g.1.becomes.stepped before v there

first_seen : (p : Program) (h : Header) (m : ℕ) (v : SeenValue) → Contains (machine_of_header p (layout_with p.digest h.geometry) h m).locks.lvm.seen v → ⊥
unfolding machine_of_header
first_seen p h m v has = contains_none v has

first : (p : Program) (h : Header) → AllTold p h []
first p h m a v at has = absurd (first_seen p h m v (subst (λ (y : Machine). Contains y.locks.lvm.seen v) (header_machine p h m a at) has))

from_front : (p : Program) (h : Header) (now rest : List Happening) → AllTold p h now → AnsweredRun p h (now ++ rest) → AllTold p h (now ++ rest)
from_front p h now [] so r = subst (AllTold p h) (sym (append-nil now)) so
from_front p h now (x ∷ rest) so r =
    let all : AnsweredRun p h ((now ++ x ∷ []) ++ rest) = subst (λ xs. AnsweredRun p h xs) (sym (next_before now x rest)) r in
    subst (AllTold p h) (next_before now x rest) (from_front p h (now ++ x ∷ []) rest (next p h now x (answered_front p h (now ++ x ∷ []) rest all) so) all)

pub versions_were_told : VersionsWereTold
versions_were_told p h xs r = from_front p h [] xs (first p h) r
