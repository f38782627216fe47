-- A quiet event leaves an acquire at its call, or answers it.
use Rattle.sl_run.specs.Lawful.{IsSetting}
use Rattle.sl_due.specs.Due.{IsHostTrace}
use Rattle.sl_trace.specs.Leases.{spot_of}
use Rattle.sl_words.proofs.Lists.{got_inside}
use Rattle.sl_words.proofs.Options.{mapped_value, then_value}
use Rattle.sl_words.proofs.Numbers.{number_itself}
use Rattle.sl_time.specs.Times.{TimingNumbers}
use Rattle.sl_headline.proofs.Quiet.Events.AreaGoesOn.{area_goes_on}
use Rattle.sl_headline.proofs.Quiet.Events.Calls.{CallThere, call_there, of_the_job, still_there}
use Rattle.sl_headline.proofs.Quiet.Events.OtherEntries.{others_keep_course}
use Rattle.sl_headline.proofs.Quiet.Events.DaemonsRunOn.{daemons_run_on}
use Rattle.sl_headline.specs.Quiet.Events.CarriedStages.{AreaOnCourse, OnCourse}
use Rattle.sl_headline.specs.Quiet.Events.DaemonsRunOn.{Rests, RunsAfter, RunsOn, Takes}
use Rattle.sl_headline.specs.Quiet.Events.AreaGoesOn.{CourseGoesOn, IsHeard, IsWellMade}
use Rattle.sl_headline.specs.Quiet.Area.CalmAreas.{LeavesCalm}
use Rattle.sl_run.specs.Inputs.{done_input, if_running, input_at, input_of, machine_of, ok_input, rest_sampled}
use Rattle.sl_run.specs.Refusals.{sectors_left}
use Rattle.sl_run.specs.EventChanges.{with_entry}
use Rattle.sl_run.specs.Quiet.{AnsweredInTime}
use Rattle.sl_run.specs.Runs.{EachDaemon}
use Rattle.sl_run.specs.Safety.{world_at}
use Rattle.sl_run.specs.Worlds.{Course, Daemon, Machine, Stamp, World, daemons_on, flight_of, machine_at, reading_now}
use Rattle.sl_run.specs.declared.event.Event.TheVariants.{AnswerCall, Crash, Do, DropWrite, ExitOf, GiveAsk, GiveCommand, GiveLvm, Land, Pass, Reset, Restart, Sample, SpawnedOf, StartDaemon, Tear, Test, WakeUp}
use Rattle.sl_run.specs.declared.event.Event.{Event}
use Rattle.sl_run_law.proofs.Course.CallsAreDistinct.{running_has}
use Rattle.sl_run_law.proofs.Course.DaemonsOfWorld.{daemons_are_of_world}
use Rattle.sl_run_law.proofs.Course.MatchedCall.{stamp_stays}
use Rattle.sl_run_law.proofs.Front.RunsFromFronts.{fronts_are_lawful}
use Rattle.sl_run_law.proofs.Front.JoinedLists.{in_flat}
use Rattle.sl_run_law.proofs.MachineWalk.{index}
use Rattle.sl_run_law.specs.Course.CallStamps.{stamp_in}
use Rattle.sl_trace.specs.Traces.{Setting, Submitted, Trace}
use Rattle.sl_trace.specs.declared.effects.Effects.{Effects}
use Rattle.sl_trace.specs.declared.effects.Entry.{Entry}
use Rattle.sl_trace.specs.declared.effects.Op.TheVariants.{ReadSectors, WriteRecord}
use Rattle.sl_trace.specs.declared.effects.Op.{Op}
use Rattle.sl_trace.specs.declared.input.Answer.TheVariants.{Failed, Read, Written}
use Rattle.sl_trace.specs.declared.input.Answer.{Answer}
use Rattle.sl_trace.specs.declared.input.Input.TheVariants.{Answer as Told, Exit, Line, Number, Spawned, Wake}
use Rattle.sl_trace.specs.declared.input.Input.{Input}
use Rattle.sl_run_law.proofs.Sessions.CallOwners.{session_more}
use Rattle.sl_words.proofs.CaseLaws.{none_some, true_is_false}
use Rattle.sl_words.proofs.WordLaws.{choose_some}
use Rattle.std.proofs.Common.{ap, inl, inr, refl, subst, sym, ◌∙◌}
use Rattle.std.proofs.lemmas.Bool.{eqb-true}
use Rattle.std.specs.Prelude.{Bool, Some, [], false, is_some, true, ℕ, ◌++◌, ◌+◌, ◌-◌, ◌<◌, ◌==◌, ◌∷◌, ◌≡◌, ◌⊎◌}

-- ---- an exit is given by an exit alone

-- Whether the input is this exit.
abbrev is_exit : Input → Bool
is_exit (Exit p) = true
is_exit i = false

-- Whether the input is an answer, and of which call.
abbrev is_told : Input → Bool
is_told (Told n a) = true
is_told i = false

abbrev told_of : Input → ℕ
told_of (Told n a) = n
told_of i = 0

no_answer : (i : Input) (n : ℕ) (a : Answer) → is_told i ≡ false → i ≡ Told n a → ⊥
no_answer i n a none is = true_is_false (sym (ap (λ j. is_told j) is) ∙ none)

abbrev exit_of : Input → ℕ
exit_of (Exit p) = p
exit_of i = 0

no_exit : {P : Type 0} (i : Input) (p : ℕ) → is_exit i ≡ false → i ≡ Exit p → P
no_exit i p none is = absurd (true_is_false (sym (ap (λ j. is_exit j) is) ∙ none))

done_is_told : (w : World) (f : Course) (o : Op) → f.call.op ≡ o → is_exit (done_input w f) ≡ false
done_is_told w f (ReadSectors n) is =
    ap (λ z. is_exit (elim z as (λ y. Input) [ ReadSectors n ↦ Told f.call.number (Read (rest_sampled w f (sectors_left f))) | WriteRecord r ↦ Told f.call.number Written ])) is
done_is_told w f (WriteRecord r) is =
    ap (λ z. is_exit (elim z as (λ y. Input) [ ReadSectors n ↦ Told f.call.number (Read (rest_sampled w f (sectors_left f))) | WriteRecord r ↦ Told f.call.number Written ])) is

ok_is_told : (f : Course) (o : Op) → f.call.op ≡ o → is_exit (ok_input f) ≡ false
ok_is_told f (ReadSectors n) is = ap (λ z. is_exit (elim z as (λ y. Input) [ ReadSectors n ↦ Told f.call.number (Read f.sampled) | WriteRecord r ↦ Told f.call.number Written ])) is
ok_is_told f (WriteRecord r) is = ap (λ z. is_exit (elim z as (λ y. Input) [ ReadSectors n ↦ Told f.call.number (Read f.sampled) | WriteRecord r ↦ Told f.call.number Written ])) is

answer_is_told : (c : ℕ) (ok : Bool) (f : Course) → is_exit (elim ok as (λ z. Input) [ true ↦ ok_input f | false ↦ Told c Failed ]) ≡ false
answer_is_told c true f = ok_is_told f f.call.op refl
answer_is_told c false f = refl

exits_by : (w : World) (e : Event) (a : Machine) (p : ℕ) → input_at w e a ≡ Some (Exit p) → e ≡ ExitOf (machine_of e) p
exits_by w (ExitOf m q) a p is = ap (λ n. ExitOf m n) (ap (λ i. exit_of i) (choose_some (is_some a.daemon) (Exit q) (Exit p) is).1)
exits_by w (WakeUp m) a p is = no_exit Wake p refl (choose_some (is_some a.daemon) Wake (Exit p) is).1
exits_by w (GiveCommand m text) a p is = no_exit (Line text) p refl (choose_some (is_some a.daemon) (Line text) (Exit p) is).1
exits_by w (GiveLvm m line) a p is = no_exit (Number line) p refl (choose_some (is_some a.daemon) (Number line) (Exit p) is).1
exits_by w (GiveAsk m) a p is =
    let t = then_value (λ text. if_running a (Line text)) a.locks.due (Exit p) is in no_exit (Line t.0) p refl (choose_some (is_some a.daemon) (Line t.0) (Exit p) t.2).1
exits_by w (AnswerCall m c ok) a p is =
    let f = mapped_value (λ (f : Course). elim ok as (λ z. Input) [ true ↦ ok_input f | false ↦ Told c Failed ]) (flight_of a c) (Exit p) is in
    no_exit (elim ok as (λ z. Input) [ true ↦ ok_input f.0 | false ↦ Told c Failed ]) p (answer_is_told c ok f.0) f.2
exits_by w (Do m c) a p is = let f = mapped_value (done_input w) (flight_of a c) (Exit p) is in no_exit (done_input w f.0) p (done_is_told w f.0 (f.0).call.op refl) f.2
exits_by w (SpawnedOf m q ok) a p is = no_exit (Spawned q ok) p refl (choose_some (is_some a.daemon) (Spawned q ok) (Exit p) is).1
exits_by w (Pass d growths) a p is = absurd (none_some (Exit p) is)
exits_by w (Sample m c k) a p is = absurd (none_some (Exit p) is)
exits_by w (Land m c) a p is = absurd (none_some (Exit p) is)
exits_by w (Tear m c k bytes) a p is = absurd (none_some (Exit p) is)
exits_by w (DropWrite m c) a p is = absurd (none_some (Exit p) is)
exits_by w (Test m) a p is = absurd (none_some (Exit p) is)
exits_by w (StartDaemon m name) a p is = absurd (none_some (Exit p) is)
exits_by w (Crash m) a p is = absurd (none_some (Exit p) is)
exits_by w (Reset m) a p is = absurd (none_some (Exit p) is)
exits_by w (Restart m) a p is = absurd (none_some (Exit p) is)

-- ---- the event

pub made_well : (w : World) (m : ℕ) (a : Machine) (d : Daemon) → EachDaemon IsWellMade w → machine_at w m ≡ Some a → a.daemon ≡ Some d → IsSetting d.setting × IsHostTrace d.setting d.trace
made_well w m a d each at runs = each d (in_flat daemons_on w.machines a d (got_inside w.machines (m - 1) a (index w m a at).1) (running_has a d runs))

pub course_goes_on : CourseGoesOn
course_goes_on p h now x run well q stage line resource c quiet = by after.how where
  w : World
  w = world_at p h now

  v : World
  v = world_at p h (now ++ x ∷ [])

  st : Setting
  st = (c.daemon).setting

  past : Trace
  past = (c.daemon).trace

  call : Submitted
  call = (c.host).call

  after : RunsAfter w v x q.machine c.daemon
  after = daemons_run_on p h now x run q.machine c.machine c.daemon (c.at).0 (c.at).1 (quiet.stays).1 (quiet.stays).2

  leaves : LeavesCalm w x (spot_of q.resource) q.machine
  leaves = record { others = quiet.calm; runs_on = ((quiet.stays).1, (quiet.stays).2) }

  timing : st.timing ≡ w.header.timing
  timing = (daemons_are_of_world p h now (fronts_are_lawful p h now (x ∷ []) run) q.machine c.machine c.daemon (c.at).0 (running_has c.machine c.daemon (c.at).1)).timing

  made : IsSetting (after.daemon).setting × IsHostTrace (after.daemon).setting (after.daemon).trace
  made = made_well v q.machine after.machine after.daemon well after.at after.runs

  area : IsSetting st → IsHostTrace st past → AreaOnCourse v q stage call.call.number (c.stamp).step
  area setting host = area_goes_on p h now x run q stage line resource c.machine c.daemon (c.at).0 (c.at).1 setting host c.asked c.host (c.stamp).step c.area leaves

  rests : after.daemon ≡ c.daemon → OnCourse v q stage
  rests is =
      let its : IsSetting st × IsHostTrace st past = subst (λ (d : Daemon). IsSetting d.setting × IsHostTrace d.setting d.trace) is made in
      record {
        machine = after.machine;
        daemon = c.daemon;
        at = (after.at, after.runs ∙ ap (λ d. Some d) is);
        asked = c.asked;
        host = c.host;
        stamp = c.stamp;
        stamped = c.stamped;
        area = area its.0 its.1;
      }

  beside : (i : Input) (fx : Effects) (stamp : Stamp) → machine_of x.0 ≡ q.machine → input_of w x.0 ≡ Some i → after.daemon ≡ with_entry (record { reading = reading_now after.machine; input = i; effects = fx }) stamp c.daemon
      → ((n : ℕ) (a : Answer) → i ≡ Told n a → n ≡ call.call.number → ⊥) → OnCourse v q stage
  beside i fx stamp same given is others =
      let e : Entry = record { reading = reading_now after.machine; input = i; effects = fx } in
      let d : Daemon = with_entry e stamp c.daemon in
      let its : IsSetting st × IsHostTrace st (e ∷ past) = subst (λ (y : Daemon). IsSetting y.setting × IsHostTrace y.setting y.trace) is made in
      let runs : (after.machine).daemon ≡ Some d = after.runs ∙ ap (λ y. Some y) is in
      let there : CallThere st past q call = call_there st past q stage c.host in
      let exits : e.input ≡ Exit q.process → ⊥ =
      λ exit. (let b = then_value (input_at w x.0) (machine_at w (machine_of x.0)) (Exit q.process) (given ∙ ap (λ j. Some j) exit) in
      (quiet.stays).0 (exits_by w x.0 b.0 q.process b.2 ∙ ap (λ m. ExitOf m q.process) same)) in
      let timely : e.reading < call.reading + st.timing.io =
      subst (λ (t : TimingNumbers). e.reading < call.reading + t.io) (sym timing)
      (subst (λ o. AnsweredInTime w.header.timing.io (reading_now after.machine) call o) (c.host).waits
      (quiet.answers after.machine d call after.at runs (still_there past e call there.there others) (of_the_job q stage call (c.host).is))) in
      let k = others_keep_course st past e q stage its.0 its.1 c.asked c.host
      (record { others = others; stays = exits; timely = timely; active = quiet.active after.machine d q.session after.at runs (session_more st e past q.session.number q.session (c.host).session) }) in
      record {
        machine = after.machine;
        daemon = d;
        at = (after.at, runs);
        asked = c.asked;
        host = k.0;
        stamp = c.stamp;
        stamped = ap (λ (m : Submitted). stamp_in (stamp ∷ (c.daemon).stamps) m.at) k.1 ∙ stamp_stays stamp (c.daemon).stamps call.at c.stamp c.stamped;
        area = subst (λ (m : Submitted). AreaOnCourse v q stage m.call.number (c.stamp).step) (sym k.1) (area its.0 (its.1.0.1, its.1.1.1));
      }

  takes : (i : Input) (fx : Effects) (stamp : Stamp) → machine_of x.0 ≡ q.machine → input_of w x.0 ≡ Some i → after.daemon ≡ with_entry (record { reading = reading_now after.machine; input = i; effects = fx }) stamp c.daemon
      → OnCourse v q stage ⊎ IsHeard v q c.daemon call.call.number
  takes (Told n answer) fx stamp same given is = which (n == call.call.number) refl where
    which : (t : Bool) → (n == call.call.number) ≡ t → OnCourse v q stage ⊎ IsHeard v q c.daemon call.call.number
    which true its =
        let number : n ≡ call.call.number = eqb-true n call.call.number its in
        inr (record {
          machine = after.machine;
          at = after.at;
          answer = answer;
          effects = fx;
          now = stamp;
          runs = after.runs ∙ (ap (λ d. Some d) is ∙ ap (λ k. Some (with_entry (record { reading = reading_now after.machine; input = Told k answer; effects = fx }) stamp c.daemon)) number);
        })
    which false other =
        inl (beside (Told n answer) fx stamp same given is (λ k a told number. true_is_false (sym (ap (λ j. j == call.call.number) (ap (λ j. told_of j) told ∙ number) ∙ number_itself call.call.number) ∙ other)))
  takes (Line text) fx stamp same given is = inl (beside (Line text) fx stamp same given is (λ k a told number. no_answer (Line text) k a refl told))
  takes (Number text) fx stamp same given is = inl (beside (Number text) fx stamp same given is (λ k a told number. no_answer (Number text) k a refl told))
  takes (Exit p) fx stamp same given is = inl (beside (Exit p) fx stamp same given is (λ k a told number. no_answer (Exit p) k a refl told))
  takes (Spawned p ok) fx stamp same given is = inl (beside (Spawned p ok) fx stamp same given is (λ k a told number. no_answer (Spawned p ok) k a refl told))
  takes Wake fx stamp same given is = inl (beside Wake fx stamp same given is (λ k a told number. no_answer Wake k a refl told))

  by : RunsOn w x q.machine after.machine c.daemon after.daemon → OnCourse v q stage ⊎ IsHeard v q c.daemon call.call.number
  by (Rests is why) = inl (rests is)
  by (Takes i fx stamp same given step is) = takes i fx stamp same given is
