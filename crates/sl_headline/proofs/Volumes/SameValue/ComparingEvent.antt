-- The event that tells a group's value to be the one that was seen: its step reads the version that was seen.
use Rattle.sl_run.specs.Caused.{Answering, CausedBy, IsCaused}
use Rattle.sl_run.specs.LockNames.{Lock, group_lock, resource_of}
use Rattle.sl_run.specs.Lvm.{Course, Lvm, Reading, after_reading, comparison, goes_on_with, is_seen, lock_process, lvm_turn}
use Rattle.sl_run.specs.declared.turn.LvmIn.TheVariants.{Reply as HostReply}
use Rattle.sl_run.specs.declared.turn.LvmOut.TheVariants.{Ask, Quiet, Reply as LineReply}
use Rattle.sl_run.specs.declared.turn.LvmOut.{LvmOut}
use Rattle.sl_words.proofs.Lists.{contains_first, find_inside}
use Rattle.sl_words.proofs.Options.{mapped_value, then_value}
use Rattle.sl_run.specs.EventChanges.{after_step, first_change, happens, next_step, take_step, with_entry}
use Rattle.sl_run.specs.Refusals.{event_tests, may_happen, sectors_left}
use Rattle.sl_run.specs.Inputs.{if_running, input_at, input_of, machine_of, ok_input, rest_sampled}
use Rattle.sl_run.specs.Locks.{Locks, Told, after_turn, is_lock_exit, left_locks, locks_after, numbered_locks, replied_locks, turned_locks}
use Rattle.sl_run.specs.LvmPromises.{TellsSame}
use Rattle.sl_run.specs.Runs.{Happening}
use Rattle.sl_run.specs.Safety.{world_at}
use Rattle.sl_run.specs.Worlds.{Course as MadeCall, Daemon, Machine, Program, Stamp, World, daemons_on, machine_at, stamp_now, world_with}
use Rattle.sl_run.specs.declared.event.Event.TheVariants.{AnswerCall, Crash, Do, DropWrite, ExitOf, GiveAsk, GiveCommand, GiveLvm, Land, Pass, Reset, Restart, Sample, SpawnedOf, StartDaemon, Tear, Test, WakeUp}
use Rattle.sl_run.specs.declared.event.Event.{Event}
use Rattle.sl_run.specs.declared.header.Header.{Header}
use Rattle.sl_run_law.proofs.Course.OneMachineChanges.{changed_here}
use Rattle.sl_run_law.proofs.Course.Daemons.{daemons_are, entry_of, step_daemon}
use Rattle.sl_run_law.proofs.Course.DaemonRuns.{daemon_stays, input_there, runs_then}
use Rattle.sl_run_law.proofs.Course.MachineTurns.{becomes}
use Rattle.sl_run_law.proofs.Front.RunsFromFronts.{last_event, run_after}
use Rattle.sl_run_law.proofs.WorldsGoOn.{first_goes}
use Rattle.sl_run_law.proofs.Guards.{on_this, passes}
use Rattle.sl_trace.specs.Traces.{Job, Setting, Trace, job_numbered, jobs, next_job}
use Rattle.sl_trace.specs.declared.command.Command.TheVariants.{GetLvb}
use Rattle.sl_trace.specs.declared.effects.Effects.{Effects}
use Rattle.sl_trace.specs.declared.effects.Entry.{Entry}
use Rattle.sl_trace.specs.declared.effects.JobReply.{JobReply}
use Rattle.sl_trace.specs.declared.effects.Op.TheVariants.{ReadSectors, WriteRecord}
use Rattle.sl_trace.specs.declared.effects.Op.{Op}
use Rattle.sl_trace.specs.declared.input.Answer.TheVariants.{Failed, Read, Written}
use Rattle.sl_trace.specs.declared.input.Input.TheVariants.{Answer as Heard, Exit, Line, Number, Spawned, Wake}
use Rattle.sl_trace.specs.declared.input.Input.{Input}
use Rattle.sl_trace.specs.declared.reply.Reply.{Reply}
use Rattle.sl_headline.proofs.Volumes.AskedJobs.{AskedHolds, GivesAsk, gives_ask, locks_stay, machines_ask, number_is, numbered_asked}
use Rattle.sl_headline.proofs.Volumes.EntriesAtFronts.{daemon_reads, on_machine}
use Rattle.sl_headline.proofs.Volumes.MachineLocks.{machines_hold}
use Rattle.sl_headline.proofs.Volumes.SameValue.ToldVersions.{TellsRead}
use Rattle.sl_headline.proofs.Volumes.SameValue.Texts.{ReadSame, told_same}
use Rattle.sl_headline.proofs.Volumes.SameValue.Values.{value_told}
use Rattle.sl_headline.proofs.Volumes.VersionsWereTold.{asked_job}
use Rattle.sl_headline.proofs.Volumes.LocksHold.{LocksHold, ended_by, left_hold, numbered_hold, numbered_lvm}
use Rattle.sl_headline.specs.Volumes.FittingRuns.{AnsweredRun, IsJobOf}
use Rattle.sl_words.proofs.CaseLaws.{none_some, one_value, some_value, true_is_false}
use Rattle.sl_words.proofs.WordLaws.{choose_some}
use Rattle.std.proofs.Common.{ap, arith, refl, subst, sym, ◌∙◌}
use Rattle.std.proofs.lemmas.Bool.{eqb-true}
use Rattle.std.specs.Prelude.{Bool, Contains, List, None, Option, Some, [], false, find, is_some, option_and_then, option_map, true, ℕ, ◌++◌, ◌+◌, ◌==◌, ◌∷◌, ◌≡◌}

-- ---- what the locks told

-- The reply to the ask, and that its turn tells this.
record ToldBy (fx : Effects) (k : Locks) (text : List ℕ) : Type 0 where
  number : ℕ
  reply : JobReply
  asked : k.asked ≡ Some number
  found : find (λ (b : JobReply). b.job == number) fx.replies ≡ Some reply
  turn : (lvm_turn k.lvm (HostReply reply.reply)).1 ≡ LineReply text

text_of : (o : Option ℕ) (line : ℕ) (t text : List ℕ) → option_map (λ n. let p : ℕ × List ℕ = (n, t) in p) o ≡ Some (line, text) → t ≡ text
text_of None line t text h = absurd (none_some (line, text) h)
text_of (Some n) line t text h = ap (λ (p : ℕ × List ℕ). p.1) (some_value (n, t) (line, text) h)

after_told : (k : Locks) (m : Lvm) (o : LvmOut) (line : ℕ) (text : List ℕ) → (after_turn k (m, o)).1 ≡ Some (line, text) → o ≡ LineReply text
after_told k m (Ask t) line text h = absurd (none_some (line, text) h)
after_told k m (LineReply t) line text h = ap (λ y. LineReply y) (text_of k.line line t text h)
after_told k m Quiet line text h = absurd (none_some (line, text) h)

found_told : (fx : Effects) (k : Locks) (n : ℕ) (o : Option JobReply) (line : ℕ) (text : List ℕ) → k.asked ≡ Some n → find (λ (b : JobReply). b.job == n) fx.replies ≡ o
    → (elim o as (λ x. Locks × Told) [ None ↦ (k, None) | Some a ↦ after_turn k (lvm_turn k.lvm (HostReply a.reply)) ]).1 ≡ Some (line, text) → ToldBy fx k text
found_told fx k n None line text asked is h = absurd (none_some (line, text) h)
found_told fx k n (Some a) line text asked is h =
    let t = lvm_turn k.lvm (HostReply a.reply) in
    record { number = n; reply = a; asked = asked; found = is; turn = after_told k t.0 t.1 line text h }

asked_told : (fx : Effects) (k : Locks) (o : Option ℕ) (line : ℕ) (text : List ℕ) → k.asked ≡ o
    → (elim (option_and_then (λ n. find (λ (b : JobReply). b.job == n) fx.replies) o) as (λ x. Locks × Told) [
      | None ↦ (k, None)
      | Some a ↦ after_turn k (lvm_turn k.lvm (HostReply a.reply))
    ]).1 ≡ Some (line, text) → ToldBy fx k text
asked_told fx k None line text is h = absurd (none_some (line, text) h)
asked_told fx k (Some n) line text is h = found_told fx k n (find (λ (b : JobReply). b.job == n) fx.replies) line text is refl h

replied_told : (fx : Effects) (k : Locks) (line : ℕ) (text : List ℕ) → (replied_locks fx k).1 ≡ Some (line, text) → ToldBy fx k text
replied_told fx k line text h = asked_told fx k k.asked line text refl h

turned_told : (i : Input) (fx : Effects) (k : Locks) (line : ℕ) (text : List ℕ) → ((t : List ℕ) → i ≡ Number t → ⊥) → (turned_locks i fx k).1 ≡ Some (line, text) → ToldBy fx k text
turned_told (Number t) fx k line text none h = absurd (none t refl)
turned_told (Line t) fx k line text none h = replied_told fx k line text h
turned_told (Heard n answer) fx k line text none h = replied_told fx k line text h
turned_told Wake fx k line text none h = replied_told fx k line text h
turned_told (Exit p) fx k line text none h = replied_told fx k line text h
turned_told (Spawned p ok) fx k line text none h = replied_told fx k line text h

locks_told : (number : ℕ) (i : Input) (fx : Effects) (k : Locks) (line : ℕ) (text : List ℕ) → ((t : List ℕ) → i ≡ Number t → ⊥) → (locks_after number i fx k).1 ≡ Some (line, text)
    → ToldBy fx (numbered_locks number i (left_locks fx k)) text
unfolding locks_after
locks_told number i fx k line text none h =
    let n : Locks = numbered_locks number i (left_locks fx k) in
    turned_told i fx n line text none (sym (ap (λ (p : Locks × Told). p.1) (ended_by (turned_locks i fx n) (is_lock_exit i))) ∙ h)

-- After the reply to the read of a value.
reading_by : (m : Lvm) (r : Reply) (l : Lock) (o : Option Course) → o ≡ Some (Reading l)
    → elim o as (λ x. Lvm × LvmOut) [ None ↦ (m, Quiet) | Some y ↦ goes_on_with m r y ] ≡ after_reading m l r
unfolding goes_on_with
reading_by m r l o is = ap (λ y. elim y as (λ x. Lvm × LvmOut) [ None ↦ (m, Quiet) | Some z ↦ goes_on_with m r z ]) is

reading_turn : (m : Lvm) (r : Reply) (l : Lock) → m.course ≡ Some (Reading l) → lvm_turn m (HostReply r) ≡ after_reading m l r
unfolding lvm_turn
reading_turn m r l is = reading_by m r l m.course is

-- ---- a line comes only where none runs

not_number : (n : ℕ) (f : MadeCall) (op : Op) (text : List ℕ) (w : World)
    → elim op as (λ x. Input) [ ReadSectors k ↦ Heard n (Read (rest_sampled w f (sectors_left f))) | WriteRecord r ↦ Heard n Written ] ≡ Number text → ⊥
not_number n f (ReadSectors k) text w h = cc
not_number n f (WriteRecord r) text w h = cc

not_number_told : (n : ℕ) (f : MadeCall) (op : Op) (text : List ℕ)
    → elim op as (λ x. Input) [ ReadSectors k ↦ Heard n (Read f.sampled) | WriteRecord r ↦ Heard n Written ] ≡ Number text → ⊥
not_number_told n f (ReadSectors k) text h = cc
not_number_told n f (WriteRecord r) text h = cc

answer_is_none : (c : ℕ) (f : MadeCall) (ok : Bool) (text : List ℕ) → elim ok as (λ x. Input) [ true ↦ ok_input f | false ↦ Heard c Failed ] ≡ Number text → ⊥
answer_is_none c f true text h = not_number_told f.call.number f f.call.op text h
answer_is_none c f false text h = cc

other_input : (a : Machine) (j : Input) (text : List ℕ) → if_running a j ≡ Some (Number text) → j ≡ Number text
other_input a j text h = (choose_some (is_some a.daemon) j (Number text) h).1

line_idle : (e : Event) (w : World) (a : Machine) (text : List ℕ) → may_happen w e ≡ true → machine_at w (machine_of e) ≡ Some a → input_at w e a ≡ Some (Number text)
    → is_some a.locks.line ≡ false
unfolding event_tests
line_idle (GiveLvm m s) w a text may at h = (on_this w m _ a at (passes w (GiveLvm m s) may)).1.0
line_idle (GiveCommand m s) w a text may at h = absurd (let x = other_input a (Line s) text h in cc)
line_idle (GiveAsk m) w a text may at h =
    let s = then_value (λ t. if_running a (Line t)) a.locks.due (Number text) h in
    absurd (let x = other_input a (Line s.0) text s.2 in cc)
line_idle (WakeUp m) w a text may at h = absurd (let x = other_input a Wake text h in cc)
line_idle (ExitOf m p) w a text may at h = absurd (let x = other_input a (Exit p) text h in cc)
line_idle (SpawnedOf m p ok) w a text may at h = absurd (let x = other_input a (Spawned p ok) text h in cc)
line_idle (AnswerCall m c ok) w a text may at h = let f = mapped_value _ _ (Number text) h in absurd (answer_is_none c f.0 ok text f.2)
line_idle (Do m c) w a text may at h = let f = mapped_value _ _ (Number text) h in absurd (not_number f.0.call.number f.0 f.0.call.op text w f.2)
line_idle (Pass x g) w a text may at h = absurd (none_some (Number text) h)
line_idle (Sample m c k) w a text may at h = absurd (none_some (Number text) h)
line_idle (Land m c) w a text may at h = absurd (none_some (Number text) h)
line_idle (Tear m c k bytes) w a text may at h = absurd (none_some (Number text) h)
line_idle (DropWrite m c) w a text may at h = absurd (none_some (Number text) h)
line_idle (Test m) w a text may at h = absurd (none_some (Number text) h)
line_idle (StartDaemon m name) w a text may at h = absurd (none_some (Number text) h)
line_idle (Crash m) w a text may at h = absurd (none_some (Number text) h)
line_idle (Reset m) w a text may at h = absurd (none_some (Number text) h)
line_idle (Restart m) w a text may at h = absurd (none_some (Number text) h)

-- ---- the event

pub record Compares (p : Program) (h : Header) (now : List Happening) (x : Happening) (m : ℕ) (group : List ℕ) : Type 0 where
  pub lver : ℕ
  pub seq : ℕ
  pub machine : Machine
  pub at : machine_at (world_at p h now) m ≡ Some machine
  pub seen : is_seen machine.locks.lvm group lver seq ≡ true
  pub told : TellsRead p h (now ++ x ∷ []) m group lver seq
  pub stamp : Stamp
  pub older : List Stamp
  pub newest : told.daemon.stamps ≡ stamp ∷ older
  pub step : stamp.step ≡ (world_at p h now).step + 1

one_later : (u w : ℕ) → u ≡ w + 0 → u + 1 ≡ w + 1
one_later u w e = omega (arith, e)

pub compares : (p : Program) (h : Header) (now : List Happening) (x : Happening) → AnsweredRun p h (now ++ x ∷ []) → (m : ℕ) (group : List ℕ) → TellsSame (world_at p h now) x m group
    → Compares p h now x m group
compares p h now x r m group s =
    let w : World = world_at p h now in
    let last = last_event p h now x r.run in
    let a : Machine = s.machine in
    let i : Input = s.input in
    let fx : Effects = s.effects in
    let area : ℕ = h.geometry.area in
    let at : machine_at w m ≡ Some a = s.there.1 in
    let here : m ≡ machine_of x.0 = sym s.there.0 in
    let has : input_of w x.0 ≡ Some i = s.step.0 in
    let q = becomes w x.0 fx last.may m a at in
    let b : Machine = q.2.middle in
    let turned = q.2.turned in
    let v : World = next_step (first_change x.0 w) in
    let stamp : Stamp = stamp_now v b in
    let c : Machine = after_step stamp i fx b in
    let world : world_at p h (now ++ x ∷ []) ≡ take_step m (Some i) fx v =
    run_after (world_with p h) now (x ∷ []) ∙ ap (λ fxs. happens w x.0 fxs) s.step.1 ∙ ap (λ o. take_step (machine_of x.0) o fx v) has ∙ ap (λ n. take_step n (Some i) fx v) (sym here) in
    let later : machine_at (world_at p h (now ++ x ∷ [])) m ≡ Some c =
    ap (λ (y : World). machine_at y m) world ∙ changed_here v m (λ y. after_step (stamp_now v y) i fx y) b q.2.between in
    let d = runs_then w x.0 m a b i last.may at here has turned in
    let runs_before : a.daemon ≡ Some d.0 = sym (daemon_stays w x.0 m a b i has turned) ∙ d.1 in
    let stays : b.locks ≡ a.locks = locks_stay w x.0 m a b i has turned in
    let e : Entry = entry_of i fx b in
    let st : Setting = d.0.setting in
    let es : Trace = e ∷ d.0.trace in
    let after : Daemon = with_entry e stamp d.0 in
    let runs : c.daemon ≡ Some after = step_daemon stamp i fx b ∙ ap (option_map (with_entry e stamp)) d.1 in
    let on : Contains (daemons_on c) after = subst (λ ds. Contains ds after) (sym (daemons_are c after runs)) (contains_first after c.ended) in
    let holds : LocksHold area h.retries a.locks = machines_hold p h now last.before m a at in
    let asks : AskedHolds area st d.0.trace a.locks = machines_ask p h now last.before m a at d.0 runs_before in
    let gives : GivesAsk i a.locks = subst (GivesAsk i) stays (gives_ask w x.0 m a b i last.may at here has turned) in
    let number : ℕ = next_job st d.0.trace in
    let left : Locks = left_locks fx a.locks in
    let k : Locks = numbered_locks number i left in
    let lock : Lock = group_lock group in
    let idle : (t : List ℕ) → i ≡ Number t → ⊥ =
    λ t is. true_is_false
    (sym (holds.runs (Reading lock) s.reads)
    ∙ line_idle x.0 w a t last.may (subst (λ n. machine_at w n ≡ Some a) here at) (input_there w x.0 m a i at here has ∙ ap (λ y. Some y) is)) in
    let told : ToldBy fx k (comparison true) =
    locks_told number i fx a.locks s.line (comparison true) idle (ap (λ n. (locks_after n i fx a.locks).1) (sym (number_is a d.0 runs_before)) ∙ s.told) in
    let reads : k.lvm.course ≡ Some (Reading lock) = ap (λ (y : Lvm). y.course) (numbered_lvm number i left) ∙ s.reads in
    let job : IsJobOf st es told.number (GetLvb (resource_of area lock) lock_process) =
    asked_job p h r.reads st es (daemon_reads p h (now ++ x ∷ []) r.run m c after later on) k (numbered_hold area h.retries number i left (left_hold area h.retries fx a.locks holds))
    (numbered_asked area h.retries st d.0.trace e.reading i fx left (left_hold area h.retries fx a.locks holds) gives asks) (Reading lock) told.number (GetLvb (resource_of area lock) lock_process) reads told.asked refl in
    let found = find_inside (λ (y : JobReply). y.job == told.number) fx.replies told.reply told.found in
    let named : told.reply.job ≡ told.number = eqb-true told.reply.job told.number found.1 in
    let well = (on_machine IsCaused (world_at p h (now ++ x ∷ [])) m c after r.caused later on).0 in
    let why = well.running told.reply found.0 in
    let same : why.0 ≡ job.0 = one_value why.0 job.0 (job_numbered st es told.number) (subst (λ n. job_numbered st es n ≡ Some why.0) named why.1) job.1 in
    let its : Answering = record { setting = st; past = d.0.trace; entry = e; job = job.0 } in
    let number_its : job.0.number ≡ told.number = eqb-true job.0.number told.number (find_inside (λ (y : Job). y.number == told.number) (jobs st es) job.0 job.1).1 in
    let there : job_numbered st es job.0.number ≡ Some job.0 = subst (λ n. job_numbered st es n ≡ Some job.0) (sym number_its) job.1 in
    let cause : CausedBy its told.reply.reply =
    subst (λ (j : Job). CausedBy (record { setting = st; past = d.0.trace; entry = e; job = j }) told.reply.reply) same why.3 in
    let read : ReadSame k.lvm lock told.reply.reply =
    told_same k.lvm lock told.reply.reply (λ ok. value_told its (resource_of area lock) lock_process job.2 there told.reply.reply ok cause)
    (sym (ap (λ (y : Lvm × LvmOut). y.1) (reading_turn k.lvm told.reply.reply lock reads)) ∙ told.turn) in
    record {
      lver = read.lver;
      seq = read.seq;
      machine = a;
      at = at;
      seen = ap (λ (y : Lvm). is_seen y group read.lver read.seq) (sym (numbered_lvm number i left)) ∙ read.seen;
      told = record {
        machine = c;
        at = later;
        daemon = after;
        has = on;
        entry = e;
        past = d.0.trace;
        whole = refl;
        reply = told.reply;
        given = found.0;
        bytes = read.bytes;
        job = subst (λ n. IsJobOf st es n (GetLvb (resource_of area lock) lock_process)) (sym named) job;
        says = read.says;
      };
      stamp = stamp;
      older = d.0.stamps;
      newest = refl;
      step = one_later (first_change x.0 w).step w.step (first_goes x.0 w).step;
    }
