-- The causes of what is answered later than it was asked: that a request or a value is written, that a release is done, that a program was
-- started. What stands behind each stood before the entry.
use Rattle.sl_due_facts.specs.Acts.Acts.{Hears}
use Rattle.sl_due_facts.specs.Acts.TraceSoFar.{entry_of}
use Rattle.sl_area.specs.AreaLayout.{is_base}
use Rattle.sl_due.specs.DueAnswers.{set_reply}
use Rattle.sl_due.specs.DueInputs.{started_reply}
use Rattle.sl_due.specs.CarriedLease.{next_of_lease}
use Rattle.sl_due.specs.Steps.{Step, add_reply, seen, with_effects}
use Rattle.sl_due_law.proofs.Causes.AnswerMakings.{command_before, told_no_text}
use Rattle.sl_due_law.proofs.Causes.AnsweredJobs.{AnswersHere, answers_here, its_command, number_is, ran_past, told_not_waking, with_command}
use Rattle.sl_due_law.proofs.Causes.CauseFactsHold.{entry_stays}
use Rattle.sl_due_law.proofs.Causes.LaterSteps.{after_that, by_effects, replied_later}
use Rattle.sl_due_law.proofs.Causes.Leases.GrantCauses.{held_early}
use Rattle.sl_due_law.proofs.Causes.Leases.LeaseDone.{DoneBy, IsForJob, done_within}
use Rattle.sl_due_law.proofs.Causes.Leases.PhaseCauses.{no_settling}
use Rattle.sl_due_law.proofs.Causes.LinesAreWell.{all_pass}
use Rattle.sl_due_law.proofs.Causes.NamesBefore.{session_then, with_session}
use Rattle.sl_due_law.proofs.Causes.PlainCauses.{started_before}
use Rattle.sl_due_facts.proofs.Connections.HeardCalls.{heard_before}
use Rattle.sl_due_leases.proofs.Holdings.LeaseCallers.{heard_call}
use Rattle.sl_due_facts.proofs.Jobs.CallsStay.{IsLate}
use Rattle.sl_due_facts.proofs.Jobs.JobsAreNumbered.{command_stays, numbered_stays}
use Rattle.sl_due_law.specs.Causes.CauseFacts.{CauseFacts, EndedAsAsked, HasEnded, HoldsAsAsked, StandsBehind, StandsBehindRequest}
use Rattle.sl_due_law.specs.Causes.CausedSoFar.{IsLater, StaysCaused, answering}
use Rattle.sl_due_facts.specs.Facts.JobFacts.{FitsCommand}
use Rattle.sl_due_facts.specs.Facts.AllFacts.{Whole, WholeTrace}
use Rattle.sl_due_leases.specs.Holdings.Moments.{Known}
use Rattle.sl_run.specs.Caused.{Answering, AnswersCall, AnswersWrite, CausedBy, IsDoneFor, IsReleased, before_entry}
use Rattle.sl_run.specs.LawfulEnd.{Converted, EndReason, Exited, Given_up, Not_started, Taken_over}
use Rattle.sl_trace.specs.Jobs.{aim_of, aim_of_command, command_numbered, command_of, job_of_start, wanted_mode}
use Rattle.sl_trace.specs.LeaseDecisions.{lease_place}
use Rattle.sl_trace.specs.Leases.{Leader_freed, Mode_cleared, StepKind, holdings_on, is_at, kind_of_step, known, lease_step, lver_written, same_kind, spot_of, spot_of_call, value_of_record, value_written}
use Rattle.sl_trace.specs.declared.lease.Aim.{Aim}
use Rattle.sl_trace.specs.declared.lease.Aim.TheVariants.{Acquires, Converts, Releases, Settles}
use Rattle.sl_trace.specs.declared.lease.LeaseNext.TheVariants.{AnswerJob}
use Rattle.sl_words.proofs.Lists.{any_found, contains_none, find_inside, got_inside, kept}
use Rattle.sl_words.proofs.Numbers.{number_itself}
use Rattle.sl_words.proofs.Options.{some_of, then_value}
use Rattle.sl_sector.specs.declared.sector.ValueRec.{ValueRec}
use Rattle.sl_trace.specs.Sessions.{holdings_of, is_joined, session_numbered, sessions}
use Rattle.sl_trace.specs.declared.session.Session.{Session}
use Rattle.sl_trace.specs.Traces.{Child, Job, Submitted, child_numbered, entry_at, holdings, is_before_input, is_ended_by, is_expected, is_running, is_shared, is_starting, job_numbered, job_of, line_in, no_process, record_of, same_place, submitted}
use Rattle.sl_trace.specs.declared.command.Command.{Command}
use Rattle.sl_trace.specs.declared.command.Command.TheVariants.{Acquire, AddLockspace, Convert, GetLvb, HostStatus, InqLockspace, Release, ReleaseOrphan, RemLockspace, Request, RunProgram, SetKillpath, SetLvb, Status, TakeOver}
use Rattle.sl_trace.specs.declared.command.ResourceArg.{ResourceArg}
use Rattle.sl_trace.specs.declared.effects.Call.{Call}
use Rattle.sl_trace.specs.declared.effects.Effects.{Effects}
use Rattle.sl_trace.specs.declared.effects.End.{End}
use Rattle.sl_trace.specs.declared.effects.Grant.{Grant}
use Rattle.sl_trace.specs.declared.effects.JobReply.{JobReply}
use Rattle.sl_trace.specs.declared.effects.LeaseStep.{LeaseStep}
use Rattle.sl_trace.specs.declared.effects.Mode.{Mode}
use Rattle.sl_trace.specs.declared.effects.Purpose.{Purpose}
use Rattle.sl_trace.specs.declared.effects.Purpose.TheVariants.{Lease, RequestRead, RequestWrite, ValueWrite}
use Rattle.sl_trace.specs.declared.effects.Start.{Start}
use Rattle.sl_trace.specs.declared.effects.Work.TheVariants.{ForJob}
use Rattle.sl_trace.specs.declared.input.Answer.{Answer}
use Rattle.sl_trace.specs.declared.input.Answer.TheVariants.{Written}
use Rattle.sl_trace.specs.declared.input.Input.{Input}
use Rattle.sl_trace.specs.declared.input.Input.TheVariants.{Exit, Spawned, Wake}
use Rattle.sl_trace.specs.declared.reply.Reply.TheVariants.{Done, Started, ValueSet}
use Rattle.sl_run_law.proofs.Leases.NumberLaws.{number_is_place}
use Rattle.sl_run_law.proofs.Sessions.CallsAreMade.{same_answered}
use Rattle.sl_words.proofs.CaseLaws.{false_is_true, is_false, none_some, one_value, some_value}
use Rattle.sl_words.specs.Words.{some_is}
use Rattle.std.proofs.Common.{ap, inl, inr, refl, subst, sym, ◌∙◌}
use Rattle.std.proofs.lemmas.Bool.{eqb-true}
use Rattle.std.proofs.lemmas.List.{append-nil}
use Rattle.std.specs.Option.{option_map_or}
use Rattle.std.specs.Prelude.{Bool, Contains, IsTrue, None, Ok, Option, Some, [], false, filter, find, is_none, is_some, not, option_and_then, true, ℕ, ◌&&◌, ◌++◌, ◌==◌, ◌≡◌, ◌⊎◌}

-- ---- what the heard call was

was_call : (x : Step) (s : Session) (m : Submitted) (answer : Answer) → Whole x → Hears x s m answer → (d : Submitted) × Contains (submitted x.past) d × (d.call ≡ m.call) × (d.answer ≡ None)
was_call x s m answer h hears =
    let w = heard_before x s m answer h hears in
    (w.0, w.1.inside, sym (same_answered x.past (entry_of x) hears.number answer w.0).call ∙ ap (λ (d : Submitted). d.call) w.1.marked, w.1.opened)

-- The command of its job, before as now.
record ItsCommand (x : Step) (s : Session) (m : Submitted) (j : ℕ) : Type 0 where
  command : Command
  reads : command_numbered x.setting (seen x) j ≡ Some command
  before : command_numbered x.setting x.past j ≡ Some command
  fits : FitsCommand x.setting s m command m.call.purpose

its_command_is : (x : Step) (s : Session) (m : Submitted) (answer : Answer) (j : ℕ) → Whole x → Hears x s m answer → job_of m.call.purpose ≡ Some j → ItsCommand x s m j
its_command_is x s m answer j h hears of =
    let there = (heard_call x s m answer hears).0 in
    let c = some_of (command_numbered x.setting (seen x) j) (h.facts.jobs.called m j there of) in
    record {
      command = c.0;
      reads = c.1;
      before = sym (command_before x j (told_no_text x hears.number answer hears.heard)) ∙ c.1;
      fits = h.facts.jobs.fits m j s c.0 there of hears.session c.1;
    }

-- What stood behind the call.
stood_behind : (x : Step) (s : Session) (m : Submitted) (answer : Answer) (j : ℕ) (c : Command) → Whole x → CauseFacts x.setting x.past → Hears x s m answer → job_of m.call.purpose ≡ Some j → command_numbered x.setting x.past j ≡ Some c
    → (d : Submitted) × (d.call ≡ m.call) × StandsBehind x.setting x.past d c m.call.purpose
stood_behind x s m answer j c h facts hears of reads =
    let d = was_call x s m answer h hears in
    (d.0, d.2, subst (λ (k : Call). StandsBehind x.setting x.past d.0 c k.purpose) d.2 (facts.behind d.0 j c d.1 (ap (λ (k : Call). job_of k.purpose) d.2 ∙ of) reads))

-- ---- requests and values

pub requested_caused : (x : Step) (s : Session) (m : Submitted) (j : ℕ) (owner : Option ℕ) → Known x → CauseFacts x.setting x.past → Hears x s m Written → m.call.purpose ≡ RequestWrite j owner → StaysCaused x (record { job = j; reply = Done })
requested_caused x s m j owner k facts hears purpose =
    by_effects x (record { job = j; reply = Done }) (told_not_waking x s m Written hears)
    (λ fx carried job found. by fx job (answers_here x s m Written j k hears of (with_effects x fx) (record { setting = refl; before = refl; reading = refl; carried = λ told. carried }) job found)) where
      of : job_of m.call.purpose ≡ Some j
      of = ap (λ p. job_of p) purpose

      c : ItsCommand x s m j
      c = its_command_is x s m Written j k.0 hears of

      fits : FitsCommand x.setting s m c.command (RequestWrite j owner)
      fits = subst (λ (p : Purpose). FitsCommand x.setting s m c.command p) purpose c.fits

      asked : ℕ
      asked = fits.1

      force : ℕ
      force = fits.2

      stood : (d : Submitted) × (d.call ≡ m.call) × StandsBehindRequest x.setting x.past d j asked force
      stood =
          let v = stood_behind x s m Written j c.command k.0 facts hears of c.before in
          (v.0, v.1, subst (λ q. StandsBehind x.setting x.past v.0 q (RequestWrite j owner)) fits.3 (subst (λ (p : Purpose). StandsBehind x.setting x.past v.0 c.command p) purpose v.2))

      by : (fx : Effects) (job : Job) → AnswersHere x m Written j (with_effects x fx) job → CausedBy (answering (with_effects x fx) job) Done
      by fx job a =
          let y : Answering = answering (with_effects x fx) job in
          let r = stood.2.0 in
          let q = stood.2.1 in
          with_command y (Request fits.0 asked force) (IsDoneFor y) (its_command x.setting (seen x) j job c.command a.found c.reads ∙ ap (λ d. Ok d) fits.3) (
            (r.0, r.1, r.2, r.3 ∙ ap (λ n. RequestRead n) (sym a.number), r.4, r.5),
            (m, a.call, (owner, purpose ∙ ap (λ n. RequestWrite n owner) (sym a.number), q.0, ap (λ (d : Call). record_of d.op) (sym stood.1) ∙ q.1, q.2, q.3)),
          )

pub set_caused : (x : Step) (s : Session) (m : Submitted) (j : ℕ) → Known x → CauseFacts x.setting x.past → Hears x s m Written → m.call.purpose ≡ ValueWrite j → StaysCaused x (record { job = j; reply = set_reply m })
set_caused x s m j k facts hears purpose = subst (λ r. StaysCaused x (record { job = j; reply = r })) says
    (by_effects x (record { job = j; reply = ValueSet v.lver v.seq }) (told_not_waking x s m Written hears)
    (λ fx carried job found. by fx job (answers_here x s m Written j k hears of (with_effects x fx) (record { setting = refl; before = refl; reading = refl; carried = λ told. carried }) job found))) where
      of : job_of m.call.purpose ≡ Some j
      of = ap (λ p. job_of p) purpose

      c : ItsCommand x s m j
      c = its_command_is x s m Written j k.0 hears of

      fits : FitsCommand x.setting s m c.command (ValueWrite j)
      fits = subst (λ (p : Purpose). FitsCommand x.setting s m c.command p) purpose c.fits

      stood : (d : Submitted) × (d.call ≡ m.call) × ((v : ValueRec) × (value_written d ≡ Some v) × (v.bytes ≡ fits.2))
      stood =
          let w = stood_behind x s m Written j c.command k.0 facts hears of c.before in
          (w.0, w.1, subst (λ q. StandsBehind x.setting x.past w.0 q (ValueWrite j)) fits.3 (subst (λ (p : Purpose). StandsBehind x.setting x.past w.0 c.command p) purpose w.2))

      v : ValueRec
      v = stood.2.0

      wrote : value_written m ≡ Some v
      wrote = ap (λ (d : Call). option_and_then value_of_record (record_of d.op)) (sym stood.1) ∙ stood.2.1

      says : ValueSet v.lver v.seq ≡ set_reply m
      says = sym (ap (λ o. option_map_or (λ (w : ValueRec). ValueSet w.lver w.seq) o Done) wrote)

      by : (fx : Effects) (job : Job) → AnswersHere x m Written j (with_effects x fx) job → CausedBy (answering (with_effects x fx) job) (ValueSet v.lver v.seq)
      by fx job a =
          let y : Answering = answering (with_effects x fx) job in
          let command : job.command ≡ Ok (SetLvb fits.0 fits.1 v.bytes) =
          its_command x.setting (seen x) j job c.command a.found c.reads ∙ ap (λ d. Ok d) (fits.3 ∙ ap (λ bs. SetLvb fits.0 fits.1 bs) (sym stood.2.2)) in
          (m, a.call, (purpose ∙ ap (λ n. ValueWrite n) (sym a.number), (v, wrote, refl, refl, (fits.0, fits.1, with_command y (SetLvb fits.0 fits.1 v.bytes) (λ d. d ≡ SetLvb fits.0 fits.1 v.bytes) command refl))))

-- ---- releases

releases_asked : (c : Command) → aim_of_command c ≡ Some Releases → ((r : ResourceArg) × (p : ℕ) × (c ≡ Release r p)) ⊎ ((r : ResourceArg) × (c ≡ ReleaseOrphan r))
releases_asked (Release r p) is = inl (r, p, refl)
releases_asked (ReleaseOrphan r) is = inr (r, refl)
releases_asked (Acquire r shared p persistent) is = absurd (apart (some_value (Acquires (wanted_mode (Acquire r shared p persistent))) Releases is)) where
  apart : {m : Mode} → Acquires m ≡ Releases → ⊥
  apart same = cc
releases_asked (RunProgram r shared path) is = absurd (apart (some_value (Acquires (wanted_mode (RunProgram r shared path))) Releases is)) where
  apart : {m : Mode} → Acquires m ≡ Releases → ⊥
  apart same = cc
releases_asked (Convert r shared p) is = absurd (apart (some_value (Converts (wanted_mode (Convert r shared p))) Releases is)) where
  apart : {m : Mode} → Converts m ≡ Releases → ⊥
  apart same = cc
releases_asked (TakeOver r shared p persistent) is = absurd (none_some Releases is)
releases_asked (AddLockspace a) is = absurd (none_some Releases is)
releases_asked (RemLockspace a) is = absurd (none_some Releases is)
releases_asked (InqLockspace a) is = absurd (none_some Releases is)
releases_asked (HostStatus a) is = absurd (none_some Releases is)
releases_asked (Request r v how) is = absurd (none_some Releases is)
releases_asked (GetLvb r p) is = absurd (none_some Releases is)
releases_asked (SetLvb r p bytes) is = absurd (none_some Releases is)
releases_asked (SetKillpath p path) is = absurd (none_some Releases is)
releases_asked Status is = absurd (none_some Releases is)

aim_for_job : (c : Command) (aim : Aim) → aim_of_command c ≡ Some aim → IsForJob aim
aim_for_job c (Acquires mode) is = tt
aim_for_job c (Converts mode) is = tt
aim_for_job c Releases is = tt
aim_for_job c Settles is = absurd (no_settling c is)

pub released_caused : (x : Step) (s : Session) (m : Submitted) (answer : Answer) (j : ℕ) (step : LeaseStep) (aim : Aim) → Known x → CauseFacts x.setting x.past → Hears x s m answer → m.call.purpose ≡ Lease (ForJob j) step
    → is_running (seen x) j ≡ true → aim_of x.setting (seen x) (ForJob j) ≡ Some aim → next_of_lease x.setting (seen x) s (spot_of_call x.setting.layout m) aim m step answer ≡ AnswerJob Done → IsLate x Done
    → StaysCaused (add_reply j Done x) (record { job = j; reply = Done })
released_caused x s m answer j step aim k facts hears purpose runs aims next may z more job found = by (releases_asked c.command releases) where
  of : job_of m.call.purpose ≡ Some j
  of = ap (λ p. job_of p) purpose

  c : ItsCommand x s m j
  c = its_command_is x s m answer j k.0 hears of

  its_aim : aim_of_command c.command ≡ Some aim
  its_aim = sym (ap (λ o. option_and_then aim_of_command o) c.reads) ∙ aims

  done : DoneBy aim step answer
  done =
      done_within (lease_place x.setting s) (known x.setting (seen x) s (spot_of_call x.setting.layout m)) aim m.call.number (lver_written m) step answer (aim_for_job c.command aim its_aim) next

  releases : aim_of_command c.command ≡ Some Releases
  releases = its_aim ∙ ap (λ a. Some a) done.releases

  later : IsLater x z
  later = after_that x (add_reply j Done x) z (replied_later x j Done may) more

  a : AnswersHere x m answer j z job
  a = answers_here x s m answer j k hears of z later job found

  y : Answering
  y = answering z job

  -- the job as it was before the entry
  before : job_numbered x.setting x.past j ≡ Some job
  before =
      let v = then_value command_of (job_numbered x.setting x.past j) c.command c.before in
      v.1 ∙ ap (λ i. Some i) (one_value v.0 job (job_numbered x.setting (seen x) j) (numbered_stays x.setting (entry_of x) x.past j v.0 v.1) a.found)

  command : job.command ≡ Ok c.command
  command = its_command x.setting (seen x) j job c.command a.found c.reads

  ended : EndedAsAsked x.past job c.command
  ended = facts.ended j job c.command before command (ran_past x.past (entry_of x) j runs)

  wrote : AnswersWrite y (λ d. IsTrue (is_at Leader_freed d) ⊎ IsTrue (is_at Mode_cleared d))
  wrote = (m, subst (λ w. AnswersCall y m w) done.written a.call, elim done.last [ inl is ↦ inl (at is Leader_freed refl) | inr is ↦ inr (at is Mode_cleared refl) ]) where
    at : {q : LeaseStep} → step ≡ q → (kind : StepKind) → same_kind (kind_of_step q) kind ≡ true → is_at kind m ≡ true
    at is kind same = ap (λ p. some_is (λ q. same_kind (kind_of_step q.1) kind) (lease_step p)) purpose ∙ (ap (λ q. same_kind (kind_of_step q) kind) is ∙ same)

  released : (r : ResourceArg) (p : ℕ) → HasEnded x.past job r p → IsReleased y r p
  released r p e = ((e.0, entry_stays z.past (entry_of z) e.0 job.at (subst (λ t. entry_at t job.at ≡ Some e.0) (sym later.before) e.1), e.2), inr wrote)

  by : ((r : ResourceArg) × (p : ℕ) × (c.command ≡ Release r p)) ⊎ ((r : ResourceArg) × (c.command ≡ ReleaseOrphan r)) → CausedBy y Done
  by (inl v) = with_command y (Release v.0 v.1) (IsDoneFor y) (command ∙ ap (λ d. Ok d) v.2) (released v.0 v.1 (subst (λ d. EndedAsAsked x.past job d) v.2 ended))
  by (inr v) = with_command y (ReleaseOrphan v.0) (IsDoneFor y) (command ∙ ap (λ d. Ok d) v.1) (released v.0 no_process (subst (λ d. EndedAsAsked x.past job d) v.1 ended))

-- ---- programs

spawned_no_exit : (i : Input) (p q : ℕ) (ok : Bool) → i ≡ Spawned p ok → i ≡ Exit q → ⊥
spawned_no_exit i p q ok spawned exits = cc

ok_no_fail : (i : Input) (p q : ℕ) → i ≡ Spawned p true → i ≡ Spawned q false → ⊥
ok_no_fail i p q started fails = cc

pub started_caused : (x : Step) (p j : ℕ) → Known x → WholeTrace x.setting x.past → CauseFacts x.setting x.past → x.input ≡ Spawned p true → job_of_start (seen x) p ≡ Some j → is_running (seen x) j ≡ true
    → StaysCaused x (record { job = j; reply = started_reply (seen x) p })
started_caused x p j k w facts input is runs =
    subst (λ r. StaysCaused x (record { job = j; reply = r })) says
    (by_effects x (record { job = j; reply = Started g.lver p }) (λ wake. apart x.input input wake) (λ fx carried job found. by fx job found))
  where
    apart : (i : Input) → i ≡ Spawned p true → i ≡ Wake → ⊥
    apart i spawned wake = cc

    of : job_of_start x.past p ≡ Some j
    of = started_before x p true j k input is

    child : (c : Child) × (child_numbered x.past p ≡ Some c) × (c.job ≡ Some j)
    child = then_value (λ (c : Child). c.job) (child_numbered x.past p) j of

    starting : is_starting x.past p ≡ true
    starting = subst (λ i. IsTrue (is_expected x.setting x.past i)) input k.0.orderly.is_trace.0.expected

    unanswered : child.0.answer ≡ None
    unanswered = none_of child.0.answer (sym (ap (λ o. some_is (λ (c : Child). is_none c.answer) o) child.1) ∙ starting) where
      none_of : (o : Option Bool) → is_none o ≡ true → o ≡ None
      none_of None h = refl
      none_of (Some b) h = absurd (false_is_true h)

    h : HoldsAsAsked x.setting x.past p j
    h = facts.starts.holds p j child.0 child.1 child.2 unanswered (ran_past x.past (entry_of x) j runs)

    g : Grant
    g = h.holding

    there : Contains (holdings x.past) g × ((g.process == p) ≡ true)
    there = find_inside (λ (u : Grant). u.process == p) (holdings x.past) g h.first

    ungranted : x.effects.grants ≡ []
    ungranted = k.1.ungranted p true input

    -- nothing ends as a start is told
    unended : (d : End) → Contains x.effects.ends d → ⊥
    unended d inside = never (k.0.orderly.ends.0.each d inside).reason where
      never : {u : Grant} → EndReason x.setting (entry_of x) u → ⊥
      never {u} (Exited own exits) = spawned_no_exit x.input p u.process true input exits
      never {u} (Not_started fails) = ok_no_fail x.input p u.process input fails
      never (Given_up text line gives) = none_some text (sym (ap (λ i. line_in i) input) ∙ line)
      never (Converted v given place process persistent) = contains_none v (subst (λ gs. Contains gs v) ungranted given)
      never (Taken_over v given place text line takes) = contains_none v (subst (λ gs. Contains gs v) ungranted given)

    held : holdings (seen x) ≡ holdings x.past
    held =
        ap (λ gs. filter (λ u. not (is_ended_by x.effects.ends u)) (holdings x.past) ++ gs) ungranted
        ∙ (append-nil (filter (λ u. not (is_ended_by x.effects.ends u)) (holdings x.past)) ∙ all_pass (λ u. not (is_ended_by x.effects.ends u)) (holdings x.past) (λ u inside. ap (λ b. not b) (stands u))) where
          stands : (u : Grant) → is_ended_by x.effects.ends u ≡ false
          stands u = is_false (is_ended_by x.effects.ends u) (λ ends. let f = any_found (λ (d : End). d.process == u.process && same_place d.path d.offset u.path u.offset) x.effects.ends ends in unended f.0 f.1)

    says : Started g.lver p ≡ started_reply (seen x) p
    says = sym (ap (λ gs. Started (option_map_or (λ (u : Grant). u.lver) (find (λ (u : Grant). u.process == p) gs) 0) p) held ∙ ap (λ o. Started (option_map_or (λ (u : Grant). u.lver) o 0) p) h.first)

    owner : (s : Session) × (session_numbered x.setting x.past g.session ≡ Some s) × (is_joined x.past s ≡ true) × (g.lockspace ≡ s.lockspace) × IsTrue (is_base x.setting.layout g.offset)
    owner = w.facts.holdings.owned g there.0

    s : Session
    s = owner.0

    by : (fx : Effects) (job : Job) → job_numbered x.setting (seen (with_effects x fx)) j ≡ Some job → CausedBy (answering (with_effects x fx) job) (Started g.lver p)
    by fx job found = (
      input,
      of ∙ ap (λ n. Some n) (sym (number_is x.setting (seen (with_effects x fx)) j job found)),
      (
        h.resource,
        h.shared,
        h.path,
        with_command y (RunProgram h.resource h.shared h.path) (λ c. c ≡ RunProgram h.resource h.shared h.path) command refl,
        with_session y s (λ s. (u : Grant) × Contains (holdings_on (before_entry y) s (spot_of h.resource)) u × ((u.process ≡ p) × (is_shared u.mode ≡ h.shared) × (u.lver ≡ g.lver)))
            (session_then y (RunProgram h.resource h.shared h.path) s w (got_inside (sessions x.setting x.past) g.session s owner.1) owner.2 command (ap (λ n. Some n) (sym h.named ∙ owner.3)))
            (g, early, (eqb-true g.process p there.1, h.mode, refl)),
      ),
    ) where
      y : Answering
      y = answering (with_effects x fx) job

      command : job.command ≡ Ok (RunProgram h.resource h.shared h.path)
      command = its_command x.setting (seen (with_effects x fx)) j job (RunProgram h.resource h.shared h.path) found (command_stays x.setting (entry_of (with_effects x fx)) x.past j (RunProgram h.resource h.shared h.path) h.command)

      number : g.session ≡ s.number
      number = sym (number_is_place x.setting x.past g.session s owner.1)

      early : Contains (holdings_on (before_entry y) s (spot_of h.resource)) g
      early =
          kept (λ (u : Grant). same_place u.path u.offset h.resource.path h.resource.offset) (holdings_of (before_entry y) s) g h.place
          (kept (λ (u : Grant). u.session == s.number) (holdings (before_entry y)) g (ap (λ n. n == s.number) number ∙ number_itself s.number)
          (subst (λ gs. Contains gs g) (sym (held_early x.past x.reading (filter (λ (q : Start). is_some q.stands_for) fx.starts) (filter (λ (q : JobReply). is_before_input q.reply) fx.replies))) there.0))
