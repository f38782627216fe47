-- What told a version: the answer of a call on the group's value, which read it or wrote it.
use Rattle.sl_area.specs.AreaSizes.{Layout}
use Rattle.sl_area.specs.AreaLayout.{value_offset}
use Rattle.sl_safety.proofs.Resources.OneSessionStands.{head_pairs, tail_pairs}
use Rattle.sl_id_safety.proofs.State.CallLaws.{is_place}
use Rattle.sl_id_safety.proofs.State.LaterFrames.{numbered_found}
use Rattle.sl_id_safety.proofs.State.SessionFacts.{grounds}
use Rattle.sl_run.specs.Caused.{AnswersWell, IsCaused}
use Rattle.sl_run.specs.Lawful.{Orderly}
use Rattle.sl_run.specs.LawForms.{IsAnsweredAt}
use Rattle.sl_trace.specs.Leases.{spot_of, spot_of_call, value_of_record}
use Rattle.sl_run.specs.LockNames.{group_lock, resource_of}
use Rattle.sl_run.specs.Lvm.{lock_process}
use Rattle.sl_words.proofs.Lists.{contains_cases, contains_none, kept_inside}
use Rattle.sl_run.specs.Runs.{Happening}
use Rattle.sl_run.specs.Safety.{world_at}
use Rattle.sl_run.specs.Values.{IsGivenValue}
use Rattle.sl_run.specs.Worlds.{Course, Daemon, Machine, Program, Stamp, World, daemons_on, machine_at}
use Rattle.sl_run.specs.declared.header.Header.{Header}
use Rattle.sl_run_law.proofs.Course.CoursesAreCalls.{courses_are_calls}
use Rattle.sl_run_law.proofs.Course.MachinesMirror.{machines_mirror}
use Rattle.sl_run_law.proofs.Front.JoinedLists.{placed_at}
use Rattle.sl_run_law.proofs.Place.FoundInLists.{partner_of}
use Rattle.sl_run_law.proofs.Place.TracesOnMachines.{call_law, owner_of}
use Rattle.sl_run_law.proofs.Watchdog.TraceNumbers.{call_found}
use Rattle.sl_run_law.specs.Course.CallStamps.{AnswersAgree, IsAnsweredAs, IsCourseOf, courses_of, stamp_in}
use Rattle.sl_sector.specs.declared.sector.Rec.TheVariants.{BlockIs, DeltaIs, LeaderIs, PairIs, PairLeaderIs, RequestIs, ValueIs}
use Rattle.sl_sector.specs.declared.sector.Rec.{Rec}
use Rattle.sl_sector.specs.declared.sector.ValueRec.{ValueRec}
use Rattle.sl_trace.specs.Sessions.{is_call_of, session_numbered}
use Rattle.sl_trace.specs.Traces.{Answered, Job, Replied, Setting, Submitted, Trace, call_numbered, is_ok_answer, job_numbered, record_of, reply_in, reply_to, submitted}
use Rattle.sl_trace.specs.declared.command.Command.TheVariants.{GetLvb, SetLvb}
use Rattle.sl_trace.specs.declared.command.Command.{Command}
use Rattle.sl_trace.specs.declared.command.ResourceArg.{ResourceArg}
use Rattle.sl_trace.specs.declared.effects.Call.{Call}
use Rattle.sl_trace.specs.declared.effects.Entry.{Entry}
use Rattle.sl_trace.specs.declared.effects.JobReply.{JobReply}
use Rattle.sl_trace.specs.declared.effects.Purpose.TheVariants.{ValueRead, ValueWrite}
use Rattle.sl_trace.specs.declared.effects.Purpose.{Purpose}
use Rattle.sl_trace.specs.declared.effects.Spot.{Spot}
use Rattle.sl_trace.specs.declared.input.Answer.TheVariants.{Read, Written}
use Rattle.sl_trace.specs.declared.input.Answer.{Answer}
use Rattle.sl_trace.specs.declared.reply.Reply.TheVariants.{Value, ValueSet}
use Rattle.sl_run_law.proofs.Sessions.CallsAreMade.{calls_are_made}
use Rattle.sl_headline.proofs.Volumes.EntriesAtFronts.{on_machine}
use Rattle.sl_headline.specs.Volumes.FittingRuns.{AnsweredRun, FitsValue, IsJobOf, ValueCallsFit}
use Rattle.sl_words.proofs.CaseLaws.{none_some, one_value, some_value}
use Rattle.std.proofs.Common.{ap, inl, inr, refl, subst, sym, ◌∙◌}
use Rattle.std.proofs.lemmas.Bool.{eq-eqb, eqb-true}
use Rattle.std.proofs.lemmas.List.{append-nil}
use Rattle.std.specs.Prelude.{AllPairs, Bool, Contains, IsSomeAnd, List, None, Ok, Option, Result, Some, [], false, find, if◌then◌else◌, length, option_and_then, option_map, true, ℕ, ◌==◌, ◌∷◌, ◌≡◌, ◌≢◌, ◌⊎◌}

-- The place of a group's value.
abbrev pub value_spot : ℕ → List ℕ → Spot
value_spot area group = spot_of (resource_of area (group_lock group))

-- ---- a reply is found by its job

found_by : (x a : JobReply) (rs : List JobReply) (t : Bool) → (x.job == a.job) ≡ t → (t ≡ true → x ≡ a) → (t ≡ false → find (λ (b : JobReply). b.job == a.job) rs ≡ Some a)
    → find (λ (b : JobReply). b.job == a.job) (x ∷ rs) ≡ Some a
found_by x a rs true is first rest = ap (λ t. if t then Some x else find (λ (b : JobReply). b.job == a.job) rs) is ∙ ap (λ y. Some y) (first refl)
found_by x a rs false is first rest = ap (λ t. if t then Some x else find (λ (b : JobReply). b.job == a.job) rs) is ∙ rest refl

not_false : true ≡ false → ⊥
not_false h = cc

pub found_once : (rs : List JobReply) (a : JobReply) → AllPairs (λ (x y : JobReply). x.job ≢ y.job) rs → Contains rs a → find (λ (b : JobReply). b.job == a.job) rs ≡ Some a
found_once [] a once has = absurd (contains_none a has)
found_once (x ∷ rs) a once has = by (found_once rs a (tail_pairs (λ (y z : JobReply). y.job ≢ z.job) x rs once)) (contains_cases x rs a has) where
  by : (Contains rs a → find (λ (b : JobReply). b.job == a.job) rs ≡ Some a) → (x ≡ a) ⊎ Contains rs a → find (λ (b : JobReply). b.job == a.job) (x ∷ rs) ≡ Some a
  by rest (inl here) =
      found_by x a rs (x.job == a.job) refl (λ t. here) (λ t. absurd (not_false (sym (eq-eqb x.job a.job (ap (λ (y : JobReply). y.job) here)) ∙ t)))
  by rest (inr old) =
      let i = placed_at rs a old in
      found_by x a rs (x.job == a.job) refl (λ t. absurd (head_pairs (λ (y z : JobReply). y.job ≢ z.job) x rs i.0 a once i.1 (eqb-true x.job a.job t))) (λ t. rest old)

-- ---- a job's command

abbrev as_read : Command → Result Command ℕ
as_read c = Ok c

ok_value : (c d : Command) → as_read c ≡ as_read d → c ≡ d
ok_value c d h = cc

pub one_command : (st : Setting) (es : Trace) (n : ℕ) (c d : Command) → IsJobOf st es n c → IsJobOf st es n d → c ≡ d
one_command st es n c d (j, at, its) (k, there, other) =
    ok_value c d (sym its ∙ ap (λ (y : Job). y.command) (one_value j k (job_numbered st es n) at there) ∙ other)

got_resource : (r q : ResourceArg) (p k : ℕ) → GetLvb r p ≡ GetLvb q k → r ≡ q
got_resource r q p k h = cc

set_resource : (r q : ResourceArg) (p k : ℕ) (b d : List ℕ) → SetLvb r p b ≡ SetLvb q k d → r ≡ q
set_resource r q p k b d h = cc

-- ---- a call that the newest entry answered

-- The call of the machine.
record AnsweredNow (p : Program) (h : Header) (xs : List Happening) (m : ℕ) (a : Machine) (d : Daemon) (past : Trace) (call : Submitted) (answer : Answer) : Type 0 where
  course : Course
  has : Contains a.calls course
  its : course.daemon ≡ d.number
  same : call.call ≡ course.call
  stamp : Stamp
  answered : course.answered ≡ Some stamp
  stamped : stamp_in d.stamps (length past) ≡ Some stamp
  done : course.done ≡ is_ok_answer answer

answered_now : (p : Program) (h : Header) (xs : List Happening) → AnsweredRun p h xs → (m : ℕ) (a : Machine) (d : Daemon) → machine_at (world_at p h xs) m ≡ Some a → Contains (daemons_on a) d
    → (past : Trace) (call : Submitted) (answer : Answer) → Contains (submitted d.trace) call → IsAnsweredAt (length past) call answer → AnsweredNow p h xs m a d past call answer
answered_now p h xs r m a d at has past call answer inside told =
    let pair = partner_of (IsCourseOf d) (courses_of a d.number) (submitted d.trace) call (courses_are_calls p h xs r.run m a d at has) inside in
    let course = kept_inside (λ (x : Course). x.daemon == d.number) a.calls pair.0 pair.1 in
    let ans : IsAnsweredAs d pair.0 told.0 = subst (λ q. AnswersAgree d pair.0 q) told.1 pair.2.answers in
    record {
      course = pair.0;
      has = course.0;
      its = eqb-true pair.0.daemon d.number course.1;
      same = pair.2.call;
      stamp = ans.stamp;
      answered = ans.answered;
      stamped = ap (λ n. stamp_in d.stamps n) (sym told.2) ∙ ans.entry;
      done = ans.done ∙ ap (λ y. is_ok_answer y) told.3;
    }

fits_at : (p : Program) (h : Header) (xs : List Happening) → AnsweredRun p h xs → (m : ℕ) (a : Machine) (d : Daemon) → machine_at (world_at p h xs) m ≡ Some a → Contains (daemons_on a) d
    → (call : Submitted) → Contains (submitted d.trace) call → (q : Purpose) → call.call.purpose ≡ q → FitsValue d.setting d.trace call q
fits_at p h xs r m a d at has call inside q is =
    subst (λ (y : Purpose). FitsValue d.setting d.trace call y) is
    (on_machine ValueCallsFit (world_at p h xs) m a d (r.fit xs [] (sym (append-nil xs))) at has call inside)

-- ---- a value that was read

-- The newest entry of a daemon of the machine tells this version of the group's value to its reader.
pub record TellsRead (p : Program) (h : Header) (xs : List Happening) (m : ℕ) (group : List ℕ) (lver seq : ℕ) : Type 0 where
  pub machine : Machine
  pub at : machine_at (world_at p h xs) m ≡ Some machine
  pub daemon : Daemon
  pub has : Contains (daemons_on machine) daemon
  pub entry : Entry
  pub past : Trace
  pub whole : daemon.trace ≡ entry ∷ past
  pub reply : JobReply
  pub given : Contains entry.effects.replies reply
  pub bytes : List ℕ
  pub job : IsJobOf daemon.setting (entry ∷ past) reply.job (GetLvb (resource_of h.geometry.area (group_lock group)) lock_process)
  pub says : reply.reply ≡ Value lver seq bytes

-- The reader's call, and what it was given.
pub record IsRead (p : Program) (h : Header) (xs : List Happening) (m : ℕ) (group : List ℕ) (lver seq : ℕ) (d : Daemon) (past : Trace) : Type 0 where
  pub course : Course
  pub stamp : Stamp
  pub value : ValueRec
  pub given : IsGivenValue (world_at p h xs) (value_spot h.geometry.area group) course stamp.step value
  pub version : (value.lver ≡ lver) × (value.seq ≡ seq)
  pub machine : Machine
  pub at : machine_at (world_at p h xs) m ≡ Some machine
  pub has : Contains machine.calls course
  pub answered : course.answered ≡ Some stamp
  pub stamped : stamp_in d.stamps (length past) ≡ Some stamp

reply_now : (entry : Entry) (past : Trace) (a : JobReply) → reply_to past a.job ≡ None → find (λ (b : JobReply). b.job == a.job) entry.effects.replies ≡ Some a
    → reply_to (entry ∷ past) a.job ≡ Some (record { at = length past; reply = a.reply })
reply_now entry past a none found =
    ap (λ o. elim o as (λ z. Option Replied) [ Some r ↦ Some r | None ↦ reply_in a.job past entry ]) none
    ∙ ap (λ o. option_map (λ (b : JobReply). let q : Replied = record { at = length past; reply = b.reply } in q) o) found

abbrev made_value : ℕ → ℕ → ℕ → List ℕ → ValueRec
made_value host lver seq bytes = record { host = host; lver = lver; seq = seq; bytes = bytes }

pub is_read : (p : Program) (h : Header) (xs : List Happening) → AnsweredRun p h xs → (m : ℕ) (group : List ℕ) (lver seq : ℕ) → (t : TellsRead p h xs m group lver seq)
    → IsRead p h xs m group lver seq t.daemon t.past
is_read p h xs r m group lver seq t =
    let w : World = world_at p h xs in
    let d : Daemon = t.daemon in
    let st : Setting = d.setting in
    let es : Trace = t.entry ∷ t.past in
    let area : ℕ = h.geometry.area in
    let at : Spot = value_spot area group in
    let law : Orderly st es = subst (λ y. Orderly st y) t.whole (on_machine Orderly w m t.machine d r.run.lawful t.at t.has) in
    let well : AnswersWell st t.past t.entry = (subst (λ y. IsCaused st y) t.whole (on_machine IsCaused w m t.machine d r.caused t.at t.has)).0 in
    let lr = law.values.0.replies t.reply lver seq t.bytes t.given t.says in
    let f1 = kept_inside (is_call_of lr.session) (submitted es) lr.call lr.of_session.0 in
    let inside : Contains (submitted d.trace) lr.call = subst (λ y. Contains (submitted y) lr.call) (sym t.whole) f1.0 in
    let fits = subst (λ y. FitsValue st y lr.call (ValueRead t.reply.job)) t.whole
    (fits_at p h xs r m t.machine d t.at t.has lr.call inside (ValueRead t.reply.job) lr.of_session.1) in
    let resource : fits.0 ≡ resource_of area (group_lock group) =
    got_resource fits.0 (resource_of area (group_lock group)) fits.1 lock_process (one_command st es t.reply.job _ _ fits.2 t.job) in
    let spot : spot_of_call st.layout lr.call ≡ at = fits.3 ∙ ap (λ y. spot_of y) resource in
    let k = answered_now p h xs r m t.machine d t.at t.has t.past lr.call (Read lr.sector) inside lr.told.0 in
    let made = calls_are_made es lr.call f1.0 in
    let mine : lr.call.call.session ≡ lr.session.number = eqb-true lr.call.call.session lr.session.number f1.1 in
    let its : session_numbered st es lr.session.number ≡ Some lr.session = ap (λ n. session_numbered st es n) (sym mine) ∙ lr.known in
    let rules = call_law st es lr.session lr.call made law its mine in
    let reads = rules.0.values.0.reads made.index lr.call.call lr.session made.call rules.1 t.reply.job lr.of_session.1 in
    let layout : st.layout ≡ w.layout = (grounds.of_world p h xs r.run m t.machine d t.at t.has).layout in
    let place : lr.call.call.offset ≡ value_offset w.layout at.base =
    reads.whole.0 ∙ ap (λ (z : Spot). value_offset st.layout z.base) spot ∙ ap (λ (g : Layout). value_offset g at.base) layout in
    let path : lr.call.call.path ≡ at.path = ap (λ (z : Spot). z.path) spot in
    let why = well.running t.reply t.given in
    let reply : reply_to d.trace t.reply.job ≡ Some (record { at = length t.past; reply = Value lver seq t.bytes }) =
    ap (λ y. reply_to y t.reply.job) t.whole ∙ reply_now t.entry t.past t.reply why.2 (found_once t.entry.effects.replies t.reply well.once t.given)
    ∙ ap (λ y. let q : Replied = record { at = length t.past; reply = y } in Some q) t.says in
    let number : call_numbered d.trace k.course.call.number ≡ Some lr.call =
    ap (λ (y : Call). call_numbered d.trace y.number) (sym k.same) ∙ call_found st d.trace lr.call (on_machine Orderly w m t.machine d r.run.lawful t.at t.has).is_trace inside in
    record {
      course = k.course;
      stamp = k.stamp;
      value = made_value lr.value.host lver seq t.bytes;
      given = record {
        daemon = (
          m,
          t.machine,
          d,
          t.reply.job,
          length t.past,
          t.at,
          k.has,
          numbered_found (daemons_on t.machine) d k.course.daemon (machines_mirror p h xs r.run m t.machine t.at).numbered t.has (sym k.its),
          ap (λ (y : Call). y.purpose) (sym k.same) ∙ lr.of_session.1,
          reply,
          subst (λ o. IsSomeAnd o (λ (y : Submitted). IsSomeAnd y.answer (λ b. b.at ≡ length t.past))) (sym number)
              (subst (λ o. IsSomeAnd o (λ (b : Answered). b.at ≡ length t.past)) (sym lr.told.0.1) lr.told.0.2),
        );
        place = is_place k.course.call.path k.course.call.offset at.path (value_offset w.layout at.base) (ap (λ (y : Call). y.path) (sym k.same) ∙ path)
            (ap (λ (y : Call). y.offset) (sym k.same) ∙ place);
        answered = subst (λ o. IsSomeAnd o (λ (s : Stamp). s.step ≡ k.stamp.step)) (sym k.answered) refl;
      };
      version = (refl, refl);
      machine = t.machine;
      at = t.at;
      has = k.has;
      answered = k.answered;
      stamped = k.stamped;
    }

-- ---- a value that was written

pub record TellsSet (p : Program) (h : Header) (xs : List Happening) (m : ℕ) (group : List ℕ) (lver seq : ℕ) : Type 0 where
  pub machine : Machine
  pub at : machine_at (world_at p h xs) m ≡ Some machine
  pub daemon : Daemon
  pub has : Contains (daemons_on machine) daemon
  pub entry : Entry
  pub past : Trace
  pub whole : daemon.trace ≡ entry ∷ past
  pub reply : JobReply
  pub given : Contains entry.effects.replies reply
  pub job : IsJobOf daemon.setting (entry ∷ past) reply.job (SetLvb (resource_of h.geometry.area (group_lock group)) lock_process (1 ∷ []))
  pub says : reply.reply ≡ ValueSet lver seq

pub record IsWritten (p : Program) (h : Header) (xs : List Happening) (m : ℕ) (group : List ℕ) (lver seq : ℕ) : Type 0 where
  pub course : Course
  pub value : ValueRec
  pub version : (value.lver ≡ lver) × (value.seq ≡ seq)
  pub machine : Machine
  pub at : machine_at (world_at p h xs) m ≡ Some machine
  pub has : Contains machine.calls course
  pub writes : record_of course.call.op ≡ Some (ValueIs value)
  pub path : course.call.path ≡ (value_spot h.geometry.area group).path
  pub offset : course.call.offset ≡ value_offset (world_at p h xs).layout (value_spot h.geometry.area group).base
  pub stamp : Stamp
  pub answered : course.answered ≡ Some stamp
  pub done : course.done ≡ true

writes_value : (o : Option Rec) (v : ValueRec) → option_and_then value_of_record o ≡ Some v → o ≡ Some (ValueIs v)
writes_value None v h = absurd (none_some v h)
writes_value (Some (ValueIs u)) v h = ap (λ y. Some (ValueIs y)) (some_value u v h)
writes_value (Some (DeltaIs u)) v h = absurd (none_some v h)
writes_value (Some (LeaderIs u)) v h = absurd (none_some v h)
writes_value (Some (BlockIs u)) v h = absurd (none_some v h)
writes_value (Some (PairIs u)) v h = absurd (none_some v h)
writes_value (Some (PairLeaderIs u)) v h = absurd (none_some v h)
writes_value (Some (RequestIs u)) v h = absurd (none_some v h)

pub is_written : (p : Program) (h : Header) (xs : List Happening) → AnsweredRun p h xs → (m : ℕ) (group : List ℕ) (lver seq : ℕ) → TellsSet p h xs m group lver seq
    → IsWritten p h xs m group lver seq
is_written p h xs r m group lver seq t =
    let w : World = world_at p h xs in
    let d : Daemon = t.daemon in
    let st : Setting = d.setting in
    let es : Trace = t.entry ∷ t.past in
    let area : ℕ = h.geometry.area in
    let at : Spot = value_spot area group in
    let law : Orderly st es = subst (λ y. Orderly st y) t.whole (on_machine Orderly w m t.machine d r.run.lawful t.at t.has) in
    let lr = law.values.0.sets t.reply lver seq t.given t.says in
    let f1 = kept_inside (is_call_of lr.session) (submitted es) lr.call lr.of_session.0 in
    let inside : Contains (submitted d.trace) lr.call = subst (λ y. Contains (submitted y) lr.call) (sym t.whole) f1.0 in
    let fits = subst (λ y. FitsValue st y lr.call (ValueWrite t.reply.job)) t.whole
    (fits_at p h xs r m t.machine d t.at t.has lr.call inside (ValueWrite t.reply.job) lr.of_session.1) in
    let resource : fits.0 ≡ resource_of area (group_lock group) =
    set_resource fits.0 (resource_of area (group_lock group)) fits.1 lock_process fits.2 (1 ∷ []) (one_command st es t.reply.job _ _ fits.3 t.job) in
    let spot : spot_of_call st.layout lr.call ≡ at = fits.4 ∙ ap (λ y. spot_of y) resource in
    let k = answered_now p h xs r m t.machine d t.at t.has t.past lr.call Written inside lr.told.0 in
    let says : record_of lr.call.call.op ≡ Some (ValueIs lr.value) = writes_value (record_of lr.call.call.op) lr.value lr.told.1 in
    let made = calls_are_made es lr.call f1.0 in
    let owner = owner_of st es lr.call law f1.0 in
    let rules = call_law st es owner.0 lr.call made law owner.1 owner.2 in
    let writes = rules.0.area.0.writes made.index lr.call.call owner.0 made.call rules.1 (ValueIs lr.value) says refl in
    let placed : value_offset st.layout (spot_of_call st.layout lr.call).base ≡ lr.call.call.offset =
    some_value (value_offset st.layout (spot_of_call st.layout lr.call).base) lr.call.call.offset writes.1.placed in
    let layout : st.layout ≡ w.layout = (grounds.of_world p h xs r.run m t.machine d t.at t.has).layout in
    let place : lr.call.call.offset ≡ value_offset w.layout at.base =
    sym placed ∙ ap (λ (z : Spot). value_offset st.layout z.base) spot ∙ ap (λ (g : Layout). value_offset g at.base) layout in
    record {
      course = k.course;
      value = lr.value;
      version = (lr.told.2, lr.told.3);
      machine = t.machine;
      at = t.at;
      has = k.has;
      writes = ap (λ (y : Call). record_of y.op) (sym k.same) ∙ says;
      path = ap (λ (y : Call). y.path) (sym k.same) ∙ ap (λ (z : Spot). z.path) spot;
      offset = ap (λ (y : Call). y.offset) (sym k.same) ∙ place;
      stamp = k.stamp;
      answered = k.answered;
      done = k.done;
    }
