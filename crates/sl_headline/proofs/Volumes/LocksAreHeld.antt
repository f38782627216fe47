-- Each lock of a table is held: it is taken by an ok reply to an acquire, whose cause is the grant, and leaves with the end of that holding.
use Rattle.sl_area.specs.AreaSizes.{Layout, layout_with}
use Rattle.sl_run.specs.Caused.{Answering, AnswersWell, CausedBy, IsCaused}
use Rattle.sl_run.specs.LockNames.{Lock, group_path, resource_of}
use Rattle.sl_run.specs.Lvm.{Acquiring, Course, HeldLock, Lvm, ends_lock, lock_process}
use Rattle.sl_run.specs.LvmLines.{LvmLine}
use Rattle.sl_run.specs.declared.turn.LvmOut.TheVariants.{Ask, Quiet, Reply as LineReply}
use Rattle.sl_run.specs.declared.turn.LvmOut.{LvmOut}
use Rattle.sl_words.proofs.Lists.{contains_cases, contains_first, contains_none, find_inside, kept, kept_inside, next_before}
use Rattle.sl_run.specs.EventChanges.{after_step, first_change, next_step, with_entry}
use Rattle.sl_run.specs.Inputs.{input_of, machine_of}
use Rattle.sl_run.specs.Locks.{Locks, Told, after_turn, fresh_locks, left_locks, locks_after, numbered_locks}
use Rattle.sl_run.specs.LvmPromises.{LocksAreHeld}
use Rattle.sl_run.specs.Runs.{Happening}
use Rattle.sl_run.specs.Safety.{world_at}
use Rattle.sl_run.specs.Worlds.{Daemon, Machine, Program, Stamp, World, daemons_on, machine_at, machine_of_header, stamp_now}
use Rattle.sl_run.specs.declared.event.Event.{Event}
use Rattle.sl_run.specs.declared.header.Header.{Header}
use Rattle.sl_run_law.proofs.Course.Daemons.{daemons_are, entry_of, step_daemon}
use Rattle.sl_run_law.proofs.Course.MachinesKeep.{Goes_on, header_machine, was_before}
use Rattle.sl_run_law.proofs.Course.DaemonRuns.{daemon_stays, runs_then}
use Rattle.sl_run_law.proofs.Course.MachineTurns.{Alone, Began, Called, Came_up, Clocked, Crashed, Elsewhere, Stays, Stepped, Tested, Took, Turned, Went_down}
use Rattle.sl_run_law.proofs.Front.JoinedLists.{contains_append, contains_left, contains_right}
use Rattle.sl_run_law.proofs.Place.FoundInLists.{place_is}
use Rattle.sl_run_law.proofs.Place.TracesOnMachines.{layout_is}
use Rattle.sl_text.specs.Forms.{spaced}
use Rattle.sl_trace.specs.CommandForms.{command_in, command_words}
use Rattle.sl_trace.specs.EffectTexts.{is_ok_reply}
use Rattle.sl_trace.specs.Traces.{Job, Setting, Trace, held_after, is_ended_by, is_shared, job_numbered, jobs, next_job, same_place}
use Rattle.sl_trace.specs.declared.command.Command.TheVariants.{Acquire}
use Rattle.sl_trace.specs.declared.command.Command.{Command}
use Rattle.sl_trace.specs.declared.effects.Effects.{Effects}
use Rattle.sl_trace.specs.declared.effects.End.{End}
use Rattle.sl_trace.specs.declared.effects.Entry.{Entry}
use Rattle.sl_trace.specs.declared.effects.Grant.{Grant}
use Rattle.sl_trace.specs.declared.effects.JobReply.{JobReply}
use Rattle.sl_trace.specs.declared.effects.Mode.TheVariants.{Exclusive, Shared}
use Rattle.sl_trace.specs.declared.effects.Mode.{Mode}
use Rattle.sl_trace.specs.declared.input.Input.TheVariants.{Answer as Heard, Exit, Line, Number, Spawned, Wake}
use Rattle.sl_trace.specs.declared.input.Input.{Input}
use Rattle.sl_trace.specs.declared.reply.Reply.{Reply}
use Rattle.sl_headline.proofs.Volumes.AskedJobs.{AskedHolds, gives_ask, locks_stay, machines_ask, middle_holds, number_is, numbered_asked}
use Rattle.sl_headline.proofs.Volumes.AcquireCauses.{acquire_granted}
use Rattle.sl_headline.proofs.Volumes.EntriesAtFronts.{answered_front, daemon_reads, on_machine}
use Rattle.sl_headline.proofs.Volumes.MachineLocks.{LocksTurn, MachineHolds, header_is, locks_turn, machines_hold, step_locks, turned_holds}
use Rattle.sl_headline.proofs.Volumes.LocksHold.{Line_given, LocksHold, LocksStep, None_given, Reply_given, emptied, left_hold, locks_step, numbered_hold, numbered_lvm}
use Rattle.sl_headline.proofs.Volumes.LockTurns.{Asks_again, HostTurn, LineTurn, Line_compares, Line_gives, Line_moves, Line_takes, Line_told, Line_writes, Moved, Read_none, Read_torn, Read_value, Released, Took_lock, Took_to_read, Wrote_none, Wrote_value}
use Rattle.sl_headline.specs.Volumes.FittingRuns.{AnsweredRun, ReadsAsks, ValueCallsFit}
use Rattle.sl_headline.specs.Volumes.LocksHeldInRuns.{LocksAreHeldInRuns}
use Rattle.sl_words.proofs.CaseLaws.{one_value}
use Rattle.std.proofs.Common.{ap, inl, inr, refl, subst, sym, ◌∙◌}
use Rattle.std.proofs.lemmas.Bool.{eqb-true}
use Rattle.std.proofs.lemmas.List.{append-nil}
use Rattle.std.specs.List.{list_any}
use Rattle.std.specs.Prelude.{Bool, Contains, List, Ok, Result, Some, false, filter, find, if◌then◌else◌, not, option_map, true, [], ℕ, ◌&&◌, ◌*◌, ◌++◌, ◌==◌, ◌∷◌, ◌≡◌, ◌⊎◌}

-- ---- which locks are new

-- The lock is the one whose acquire was answered ok.
pub record IsTaken (r : Reply) (c : Course) (l : HeldLock) : Type 0 where
  pub again : ℕ
  pub compares : Bool
  pub course : c ≡ Acquiring l.lock l.mode again compares
  pub ok : is_ok_reply r ≡ true

abbrev HeldOrTaken : Lvm → Reply → Course → HeldLock → Type 0
HeldOrTaken m r c l = Contains m.held l ⊎ IsTaken r c l

last_or : (xs : List HeldLock) (y a : HeldLock) → Contains (xs ++ y ∷ []) a → Contains xs a ⊎ (y ≡ a)
last_or xs y a h =
    elim (contains_append xs (y ∷ []) a h) as (λ z. Contains xs a ⊎ (y ≡ a)) [
      | inl old ↦ inl old
      | inr new ↦ elim (contains_cases y [] a new) as (λ z. Contains xs a ⊎ (y ≡ a)) [ inl is ↦ inr is | inr none ↦ absurd (contains_none a none) ]
    ]

with_new : (m : Lvm) (r : Reply) (c : Course) (l : Lock) (mode : Mode) (again : ℕ) (compares : Bool) (a : HeldLock) → c ≡ Acquiring l mode again compares → is_ok_reply r ≡ true
    → Contains (m.held ++ record { lock = l; mode = mode } ∷ []) a → HeldOrTaken m r c a
with_new m r c l mode again compares a is ok has =
    elim (last_or m.held (record { lock = l; mode = mode }) a has) as (λ z. HeldOrTaken m r c a) [
      | inl old ↦ inl old
      | inr same ↦ inr (record { again = again; compares = compares; course = is ∙ ap (λ (y : HeldLock). Acquiring y.lock y.mode again compares) same; ok = ok })
    ]

new_by : (m : Lvm) (r : Reply) (c : Course) (t : Lvm × LvmOut) (l : HeldLock) → HostTurn m r c t → Contains t.0.held l → HeldOrTaken m r c l
new_by m r c t l (Moved is) has = inl (subst (λ (y : Lvm × LvmOut). Contains y.0.held l) is has)
new_by m r c t l (Took_to_read lock mode again was ok is) has = with_new m r c lock mode again true l was ok (subst (λ (y : Lvm × LvmOut). Contains y.0.held l) is has)
new_by m r c t l (Took_lock lock mode again was ok is) has = with_new m r c lock mode again false l was ok (subst (λ (y : Lvm × LvmOut). Contains y.0.held l) is has)
new_by m r c t l (Asks_again lock mode again compares was few is) has = inl (subst (λ (y : Lvm × LvmOut). Contains y.0.held l) is has)
new_by m r c t l (Read_value lock lver seq bytes was told is) has = inl (subst (λ (y : Lvm × LvmOut). Contains y.0.held l) is has)
new_by m r c t l (Read_torn lock was is) has = inl (subst (λ (y : Lvm × LvmOut). Contains y.0.held l) is has)
new_by m r c t l (Read_none lock was other is) has = inl (subst (λ (y : Lvm × LvmOut). Contains y.0.held l) is has)
new_by m r c t l (Wrote_value lock lver seq was told is) has = inl (subst (λ (y : Lvm × LvmOut). Contains y.0.held l) is has)
new_by m r c t l (Wrote_none lock was is) has = inl (subst (λ (y : Lvm × LvmOut). Contains y.0.held l) is has)
new_by m r c t l (Released lock refused s was is) has = inl (subst (λ (y : Lvm × LvmOut). Contains y.0.held l) is has)

line_held : (m : Lvm) (x : Result LvmLine ℕ) (t : Lvm × LvmOut) → LineTurn m x t → t.0.held ≡ m.held
line_held m x t (Line_told text is) = ap (λ (y : Lvm × LvmOut). y.0.held) is
line_held m x t (Line_moves c is) = ap (λ (y : Lvm × LvmOut). y.0.held) is
line_held m x t (Line_takes l mode read is) = ap (λ (y : Lvm × LvmOut). y.0.held) is
line_held m x t (Line_compares l mode read is) = ap (λ (y : Lvm × LvmOut). y.0.held) is
line_held m x t (Line_writes l read is) = ap (λ (y : Lvm × LvmOut). y.0.held) is
line_held m x t (Line_gives l is) = ap (λ (y : Lvm × LvmOut). y.0.held) is

turn_lvm : (k : Locks) (m : Lvm) (o : LvmOut) → (after_turn k (m, o)).0.lvm ≡ m
turn_lvm k m (Ask text) = refl
turn_lvm k m (LineReply text) = refl
turn_lvm k m Quiet = refl

-- A reply by which a lock was taken.
pub record Takes (fx : Effects) (k : Locks) (l : HeldLock) : Type 0 where
  pub number : ℕ
  pub reply : JobReply
  pub course : Course
  pub asked : k.asked ≡ Some number
  pub found : find (λ (b : JobReply). b.job == number) fx.replies ≡ Some reply
  pub at : k.lvm.course ≡ Some course
  pub taken : IsTaken reply.reply course l

step_takes : (i : Input) (fx : Effects) (k : Locks) (q : Locks × Told) (l : HeldLock) → LocksStep i fx k q → Contains q.0.lvm.held l → Contains k.lvm.held l ⊎ Takes fx k l
step_takes i fx k q l (Line_given text t is turn same) has =
    let held : q.0.lvm.held ≡ k.lvm.held =
    ap (λ (p : Locks × Told). p.0.lvm.held) same ∙ ap (λ (m : Lvm). m.held) (turn_lvm k t.0 t.1) ∙ line_held k.lvm _ t turn in
    inl (subst (λ ls. Contains ls l) held has)
step_takes i fx k q l (Reply_given n a c t asked found at turn same) has =
    let held : q.0.lvm.held ≡ t.0.held = ap (λ (p : Locks × Told). p.0.lvm.held) same ∙ ap (λ (m : Lvm). m.held) (turn_lvm k t.0 t.1) in
    elim (new_by k.lvm a.reply c t l turn (subst (λ ls. Contains ls l) held has)) as (λ z. Contains k.lvm.held l ⊎ Takes fx k l) [
      | inl old ↦ inl old
      | inr new ↦ inr (record { number = n; reply = a; course = c; asked = asked; found = found; at = at; taken = new })
    ]
step_takes i fx k q l (None_given same) has = inl (subst (λ (p : Locks × Told). Contains p.0.lvm.held l) same has)

if_ends : (k : Locks) (t : Bool) (l : HeldLock) → Contains (if t then emptied k else k).lvm.held l → Contains k.lvm.held l
if_ends k true l has = absurd (contains_none l has)
if_ends k false l has = has

-- A lock that a table has after a step did not leave with it, or was taken by a reply in it.
after_takes : (number : ℕ) (i : Input) (fx : Effects) (k : Locks) (l : HeldLock) → Contains (locks_after number i fx k).0.lvm.held l
    → Contains (left_locks fx k).lvm.held l ⊎ Takes fx (numbered_locks number i (left_locks fx k)) l
after_takes number i fx k l has =
    let s = locks_step number i fx k in
    let left : Locks = left_locks fx k in
    elim (step_takes i fx (numbered_locks number i left) s.turn l s.step (if_ends s.turn.0 s.ends l (subst (λ (y : Locks). Contains y.lvm.held l) s.same has)))
    as (λ z. Contains left.lvm.held l ⊎ Takes fx (numbered_locks number i left) l) [
      | inl old ↦ inl (subst (λ (m : Lvm). Contains m.held l) (numbered_lvm number i left) old)
      | inr new ↦ inr new
    ]

-- ---- what stands behind it

step_holdings : (now : Stamp) (i : Input) (fx : Effects) (b : Machine) → (after_step now i fx b).holdings ≡ held_after fx b.holdings
step_holdings now (Line text) fx b = refl
step_holdings now (Number text) fx b = refl
step_holdings now (Heard n answer) fx b = refl
step_holdings now Wake fx b = refl
step_holdings now (Exit p) fx b = refl
step_holdings now (Spawned p ok) fx b = refl

mode_is : (m n : Mode) → is_shared m ≡ is_shared n → m ≡ n
mode_is Shared Shared h = refl
mode_is Exclusive Exclusive h = refl
mode_is Shared Exclusive h = absurd cc
mode_is Exclusive Shared h = absurd cc

-- Of these holdings one is the lock's, in areas of this size.
abbrev HasLock : ℕ → List Grant → HeldLock → Type 0
HasLock area gs l =
    (g : Grant) × Contains gs g × (g.process ≡ lock_process) × (same_place g.path g.offset (group_path l.lock.group) (l.lock.number * area) ≡ true) × (g.mode ≡ l.mode)

number_is_job : (st : Setting) (es : Trace) (n : ℕ) (j : Job) → job_numbered st es n ≡ Some j → j.number ≡ n
number_is_job st es n j is = eqb-true j.number n (find_inside (λ (k : Job). k.number == n) (jobs st es) j is).1

granted : (p : Program) (h : Header) → ReadsAsks p h → (st : Setting) (past : Trace) (e : Entry) → st.read ≡ command_in (p.commands h) → AnswersWell st past e
    → ValueCallsFit st (e ∷ past) → (k : Locks) → LocksHold h.geometry.area h.retries k → AskedHolds h.geometry.area st (e ∷ past) k → (l : HeldLock) → Takes e.effects k l
    → HasLock h.geometry.area e.effects.grants l
granted p h reads st past e read well fits k holds asks l t =
    let area : ℕ = h.geometry.area in
    let acquire : Command = Acquire (resource_of area l.lock) (is_shared l.mode) lock_process false in
    let course : Course = Acquiring l.lock l.mode t.taken.again t.taken.compares in
    let at : k.lvm.course ≡ Some course = t.at ∙ ap (λ c. Some c) t.taken.course in
    let ask = asks course t.number at t.asked in
    let text : ask.0 ≡ spaced (command_words acquire) = ask.2 acquire refl in
    let says : ask.1.command ≡ Ok acquire =
    ask.4 ∙ ap (λ f. f ask.0) read ∙ ap (λ s. command_in (p.commands h) s) text ∙ reads course acquire (holds.fair course at) refl in
    let found = find_inside (λ (b : JobReply). b.job == t.number) e.effects.replies t.reply t.found in
    let named : t.reply.job ≡ t.number = eqb-true t.reply.job t.number found.1 in
    let why = well.running t.reply found.0 in
    let same : why.0 ≡ ask.1 =
    one_value why.0 ask.1 (job_numbered st (e ∷ past) t.number) (subst (λ n. job_numbered st (e ∷ past) n ≡ Some why.0) named why.1) ask.3 in
    let there : job_numbered st (e ∷ past) ask.1.number ≡ Some ask.1 =
    subst (λ n. job_numbered st (e ∷ past) n ≡ Some ask.1) (sym (number_is_job st (e ∷ past) t.number ask.1 ask.3)) ask.3 in
    let x : Answering = record { setting = st; past = past; entry = e; job = ask.1 } in
    let g = acquire_granted x (resource_of area l.lock) (is_shared l.mode) lock_process says there fits t.reply.reply t.taken.ok
    (subst (λ (j : Job). CausedBy (record { setting = st; past = past; entry = e; job = j }) t.reply.reply) same why.3) in
    let grant = g.1 in
    (grant.0, grant.1, grant.2, grant.3, mode_is grant.0.mode l.mode grant.4)

-- ---- what stays in the table

-- A lock's holding ends with the end of its place, by lvmlockd's process: so does its place in the table.
ended_with : (area : ℕ) (ends : List End) (g : Grant) (l : HeldLock) → g.process ≡ lock_process
    → same_place g.path g.offset (group_path l.lock.group) (l.lock.number * area) ≡ true → is_ended_by ends g ≡ ends_lock area ends l.lock
ended_with area ends g l process place =
    let is = place_is g.path g.offset (group_path l.lock.group) (l.lock.number * area) place in
    ap (λ p. list_any (λ (e : End). e.process == p && same_place e.path e.offset g.path g.offset) ends) process
    ∙ ap (λ path. list_any (λ (e : End). e.process == lock_process && same_place e.path e.offset path g.offset) ends) is.0
    ∙ ap (λ n. list_any (λ (e : End). e.process == lock_process && same_place e.path e.offset (group_path l.lock.group) n) ends) is.1

-- So what has not left the table is held still.
still_held : (area : ℕ) (fx : Effects) (k : Locks) (gs : List Grant) (l : HeldLock) → k.lvm.area ≡ area → ((h : HeldLock) → Contains k.lvm.held h → HasLock area gs h)
    → Contains (left_locks fx k).lvm.held l → HasLock area (held_after fx gs) l
still_held area fx k gs l size all has =
    let stays = kept_inside (λ (h : HeldLock). not (ends_lock k.lvm.area fx.ends h.lock)) k.lvm.held l has in
    let g = all l stays.0 in
    let same : is_ended_by fx.ends g.0 ≡ ends_lock k.lvm.area fx.ends l.lock = ended_with area fx.ends g.0 l g.2 g.3 ∙ ap (λ n. ends_lock n fx.ends l.lock) (sym size) in (
      g.0,
      contains_left (filter (λ (y : Grant). not (is_ended_by fx.ends y)) gs) fx.grants g.0
          (kept (λ (y : Grant). not (is_ended_by fx.ends y)) gs g.0 (ap not same ∙ stays.1) g.1),
      g.2,
      g.3,
      g.4,
    )

-- ---- the event

-- Each lock of a machine's table is one of its holdings.
abbrev TableIsHeld : Header → Machine → Type 0
TableIsHeld h a = (l : HeldLock) → Contains a.locks.lvm.held l → HasLock h.geometry.area a.holdings l

-- The locks and holdings of a machine.
abbrev shown : Machine → Locks × List Grant
shown a = (a.locks, a.holdings)

same_table : (h : Header) (a b : Machine) → shown b ≡ shown a → TableIsHeld h a → TableIsHeld h b
same_table h a b same all =
    subst (λ (y : Locks × List Grant). (l : HeldLock) → Contains y.0.lvm.held l → HasLock h.geometry.area y.1 l) (sym same) all

empty_table : (h : Header) (b : Machine) (g : Header) → b.locks ≡ fresh_locks g → TableIsHeld h b
empty_table h b g is l has = absurd (contains_none l (subst (λ (k : Locks). Contains k.lvm.held l) is has))

turned_table : (h : Header) (w : World) (e : Event) (m : ℕ) (a b : Machine) → Turned w e m a b → TableIsHeld h a → TableIsHeld h b
turned_table h w e m a b (Stays is) all = same_table h a b (ap shown is) all
turned_table h w e m a b (Clocked n is) all = same_table h a b (ap shown is) all
turned_table h w e m a b (Called n f g flight keeps is) all = same_table h a b (ap shown is) all
turned_table h w e m a b (Tested s is) all = same_table h a b (ap shown is) all
turned_table h w e m a b (Began name event up used fresh is) all = empty_table h b w.header (ap (λ (x : Machine). x.locks) is)
turned_table h w e m a b (Crashed event is) all = same_table h a b (ap shown is) all
turned_table h w e m a b (Went_down event up is) all = empty_table h b w.header (ap (λ (x : Machine). x.locks) is)
turned_table h w e m a b (Came_up event down is) all = same_table h a b (ap shown is) all

took : (p : Program) (h : Header) (now : List Happening) (x : Happening) (m : ℕ) (a c : Machine) → AnsweredRun p h (now ++ x ∷ []) → (g : Goes_on p h now x m a c) (i : Input)
    → input_of (world_at p h now) x.0 ≡ Some i → m ≡ machine_of x.0
    → c ≡ after_step (stamp_now (next_step (first_change x.0 (world_at p h now))) g.becomes.middle) i g.effects g.becomes.middle → TableIsHeld h g.becomes.middle
    → TableIsHeld h c
took p h now x m a c r g i has here is all l there =
    let w : World = world_at p h now in
    let b : Machine = g.becomes.middle in
    let stamp : Stamp = stamp_now (next_step (first_change x.0 w)) b in
    let fx : Effects = g.effects in
    let area : ℕ = h.geometry.area in
    let d = runs_then w x.0 m a b i g.may g.at here has g.becomes.turned in
    let e : Entry = entry_of i fx b in
    let after : Daemon = with_entry e stamp d.0 in
    let runs : c.daemon ≡ Some after = ap (λ (y : Machine). y.daemon) is ∙ step_daemon stamp i fx b ∙ ap (option_map (with_entry e stamp)) d.1 in
    let on : Contains (daemons_on c) after = subst (λ ds. Contains ds after) (sym (daemons_are c after runs)) (contains_first after c.ended) in
    let holds : MachineHolds h b = middle_holds p h now x m a c g i has in
    let asks : AskedHolds area d.0.setting d.0.trace b.locks =
    subst (AskedHolds area d.0.setting d.0.trace) (sym (locks_stay w x.0 m a b i has g.becomes.turned))
    (machines_ask p h now g.before m a g.at d.0 (sym (daemon_stays w x.0 m a b i has g.becomes.turned) ∙ d.1)) in
    let number : ℕ = next_job d.0.setting d.0.trace in
    let locks : c.locks ≡ (locks_after number i fx b.locks).0 =
    ap (λ (y : Machine). y.locks) is ∙ step_locks stamp i fx b ∙ ap (λ n. (locks_after n i fx b.locks).0) (number_is b d.0 d.1) in
    let left : Locks = left_locks fx b.locks in
    let left_holds : LocksHold area h.retries left = left_hold area h.retries fx b.locks holds in
    let k : Locks = numbered_locks number i left in
    let held : c.holdings ≡ held_after fx b.holdings = ap (λ (y : Machine). y.holdings) is ∙ step_holdings stamp i fx b in
    subst (λ gs. HasLock area gs l) (sym held)
    (elim (after_takes number i fx b.locks l (subst (λ (y : Locks). Contains y.lvm.held l) locks there)) as (λ z. HasLock area (held_after fx b.holdings) l) [
      | inl old ↦ still_held area fx b.locks b.holdings l holds.area_is all old
      | inr t ↦ let given = granted p h r.reads d.0.setting d.0.trace e (daemon_reads p h (now ++ x ∷ []) r.run m c after g.later on)
          (on_machine IsCaused (world_at p h (now ++ x ∷ [])) m c after r.caused g.later on).0
          (on_machine ValueCallsFit (world_at p h (now ++ x ∷ [])) m c after (r.fit (now ++ x ∷ []) [] (sym (append-nil (now ++ x ∷ [])))) g.later on)
          k (numbered_hold area h.retries number i left left_holds)
          (numbered_asked area h.retries d.0.setting d.0.trace e.reading i fx left left_holds (gives_ask w x.0 m a b i g.may g.at here has g.becomes.turned) asks) l t in
          (given.0, contains_right (filter (λ (y : Grant). not (is_ended_by fx.ends y)) b.holdings) fx.grants given.0 given.1, given.2, given.3, given.4)
    ])

stepped : (p : Program) (h : Header) (now : List Happening) (x : Happening) (m : ℕ) (a c : Machine) → AnsweredRun p h (now ++ x ∷ []) → (g : Goes_on p h now x m a c)
    → Stepped (world_at p h now) x.0 g.effects m g.becomes.middle c → MachineHolds h g.becomes.middle → TableIsHeld h g.becomes.middle → TableIsHeld h c
stepped p h now x m a c r g (Elsewhere is) holds all = subst (TableIsHeld h) (sym is) all
stepped p h now x m a c r g (Alone none here is) holds all =
    subst (TableIsHeld h) (sym is) (λ l has. still_held h.geometry.area g.effects g.becomes.middle.locks g.becomes.middle.holdings l holds.area_is all has)
stepped p h now x m a c r g (Took i has here is) holds all = took p h now x m a c r g i has here is all

-- ---- every machine

abbrev AllHeld : Program → Header → List Happening → Type 0
AllHeld p h xs = (m : ℕ) (a : Machine) → machine_at (world_at p h xs) m ≡ Some a → TableIsHeld h a

next : (p : Program) (h : Header) (now : List Happening) (x : Happening) → AnsweredRun p h (now ++ x ∷ []) → AllHeld p h now → AllHeld p h (now ++ x ∷ [])
next p h now x r before m c later =
    let g = was_before p h now x r.run m c later in
    let w : World = world_at p h now in
    let b : Machine = g.1.becomes.middle in
    let holds : MachineHolds h b =
    turned_holds h g.0 b (subst (λ y. LocksTurn y g.0 b) (header_is p h now) (locks_turn w x.0 m g.0 b g.1.becomes.turned)) (machines_hold p h now g.1.before m g.0 g.1.at) in
    stepped p h now x m g.0 c r g.1 g.1.becomes.stepped holds (turned_table h w x.0 m g.0 b g.1.becomes.turned (before m g.0 g.1.at))

first_table : (p : Program) (h : Header) (m : ℕ) → TableIsHeld h (machine_of_header p (layout_with p.digest h.geometry) h m)
unfolding machine_of_header
first_table p h m l has = absurd (contains_none l has)

first : (p : Program) (h : Header) → AllHeld p h []
first p h m a at = subst (TableIsHeld h) (sym (header_machine p h m a at)) (first_table p h m)

from_front : (p : Program) (h : Header) (now rest : List Happening) → AllHeld p h now → AnsweredRun p h (now ++ rest) → AllHeld p h (now ++ rest)
from_front p h now [] so r = subst (AllHeld p h) (sym (append-nil now)) so
from_front p h now (x ∷ rest) so r =
    let all : AnsweredRun p h ((now ++ x ∷ []) ++ rest) = subst (λ xs. AnsweredRun p h xs) (sym (next_before now x rest)) r in
    subst (AllHeld p h) (next_before now x rest) (from_front p h (now ++ x ∷ []) rest (next p h now x (answered_front p h (now ++ x ∷ []) rest all) so) all)

area_is : (p : Program) (h : Header) (xs : List Happening) → (world_at p h xs).layout.area ≡ h.geometry.area
area_is p h xs = ap (λ (g : Layout). g.area) (layout_is p h xs)

held_at : (p : Program) (h : Header) (now : List Happening) → AnsweredRun p h now → LocksAreHeld (world_at p h now)
held_at p h now r m a l at has =
    let g = from_front p h [] now (first p h) r m a at l has in
    (g.0, g.1, g.2, subst (λ n. same_place g.0.path g.0.offset (group_path l.lock.group) (l.lock.number * n) ≡ true) (sym (area_is p h now)) g.3, g.4)

pub locks_are_held : LocksAreHeldInRuns
locks_are_held p h xs r now rest is = held_at p h now (answered_front p h now rest (subst (λ ys. AnsweredRun p h ys) is r))
