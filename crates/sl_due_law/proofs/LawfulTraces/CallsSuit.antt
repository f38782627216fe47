-- Each call of a step suits what it is for.
use Rattle.sl_due_facts.proofs.Acts.AddedAtEnd.{contains_last}
use Rattle.sl_due_facts.specs.Acts.Acts.{Acts, Hears, next_of_conversion, next_of_release, next_of_settling}
use Rattle.sl_area.specs.AreaLayout.{area_sectors, block_sectors, delta_offset, request_offset}
use Rattle.sl_area.specs.AreaRecords.{leader_record}
use Rattle.sl_due.specs.DueAnswers.{set_reply}
use Rattle.sl_due.specs.DueCommands.{carry_decision, decided}
use Rattle.sl_due.specs.DueRecovery.{begin_recoveries}
use Rattle.sl_due.specs.DueInputs.{end_holdings, leave_holdings, started_reply}
use Rattle.sl_due.specs.CarriedLease.{next_of_lease}
use Rattle.sl_due.specs.DueRequests.{after_value_read, bits_due, owner_read, value_reply}
use Rattle.sl_due.specs.Steps.{Step, add_end, add_reply, begin_step, seen, with_input}
use Rattle.sl_due.specs.declared.decision.Decision.TheVariants.{ConvertsTo, GetsValue, GivesUp, Joins, Leaves, ReadsArea, Replies, Requests, SetsValue, Shares, TakesOver}
use Rattle.sl_due.specs.declared.decision.Decision.{Decision}
use Rattle.sl_due_leases.proofs.Holdings.DecisionsHaveGrounds.{decisions_have_grounds}
use Rattle.sl_due_facts.proofs.Jobs.EffectsAreAllowed.{Allows, DecisionAllowed, DeltaAllowed, LeaseAllowed, ReadAllowed, RequestAllowed, decision, delta, ended, exited, lease, left, refusal, removal, removal_of_refused, requested, said, sent, signalled, stopped}
use Rattle.sl_due_facts.proofs.Jobs.JobsAreNumbered.{line_seen}
use Rattle.sl_due_facts.proofs.Jobs.NearlyPlainActs.{AnyMove, AnyStart, Anything, grant_plain}
use Rattle.sl_due_law.proofs.Recovery.StopsBegin.{begun_says}
use Rattle.sl_due_law.proofs.LawfulTraces.HeardBefore.{HeardBefore, command_past, heard_before}
use Rattle.sl_due_law.proofs.LawfulTraces.StepsSuit.{NextSuits, conversion_suits, next_suits, release_suits, within_suits}
use Rattle.sl_due_facts.specs.Facts.JobFacts.{JobFacts}
use Rattle.sl_due_leases.specs.Holdings.DecisionGrounds.{AsksLease, HasGrounds, Releases as IsReleased}
use Rattle.sl_due_law.specs.LawfulTraces.JobLore.{AllSuit, CallSuits, NewSuit, OpFits, suits}
use Rattle.sl_due_law.specs.LawfulTraces.CarriedFacts.{Kept}
use Rattle.sl_trace.specs.Jobs.{aim_of, aim_of_command, command_numbered, command_of, job_of_start, wanted_mode}
use Rattle.sl_trace.specs.LeaseDecisions.{lease_place}
use Rattle.sl_trace.specs.Leases.{known, lver_written, spot_of, spot_of_call}
use Rattle.sl_trace.specs.declared.lease.Aim.TheVariants.{Acquires, Converts, Releases}
use Rattle.sl_trace.specs.declared.lease.Aim.{Aim}
use Rattle.sl_trace.specs.declared.lease.LeaseNext.TheVariants.{AnswerJob, BecomeExclusive, BecomeShared, GrantJob, Nothing as No_lease, ReadFor, WriteBlock, WriteLeader}
use Rattle.sl_trace.specs.declared.lease.LeaseNext.{LeaseNext}
use Rattle.sl_words.proofs.Lists.{contains_none, got_inside, in_map}
use Rattle.sl_trace.specs.DeltaDecisions.{delta_known, delta_of_session, next_after_free, next_after_renewal, next_free, next_in_joining, next_on_wake, next_renewal}
use Rattle.sl_trace.specs.Sessions.{calls_of, generation_of, recovery_of}
use Rattle.sl_trace.specs.declared.delta.DeltaNext.TheVariants.{Disconnect, EndLeaving, Join, MoveConnection, Nothing, ReadOwn, RefuseJoin, RegisterAndRead, WriteClaim, WriteFirst, WriteFree, WriteRenewal}
use Rattle.sl_trace.specs.declared.delta.DeltaNext.{DeltaNext}
use Rattle.sl_trace.specs.declared.session.Session.{Session}
use Rattle.sl_trace.specs.Traces.{Setting, Submitted, Trace, answered_in, end_of, job_of, jobs, mark, next_call, next_job, spot_of_grant, submitted, work_job}
use Rattle.sl_trace.specs.declared.command.Command.TheVariants.{Acquire, AddLockspace, Convert, GetLvb, HostStatus, InqLockspace, Release, ReleaseOrphan, RemLockspace, Request, RunProgram, SetKillpath, SetLvb, Status, TakeOver}
use Rattle.sl_trace.specs.declared.command.Command.{Command}
use Rattle.sl_trace.specs.declared.effects.Call.{Call}
use Rattle.sl_trace.specs.declared.effects.Entry.{Entry}
use Rattle.sl_trace.specs.declared.command.LockspaceArg.{LockspaceArg}
use Rattle.sl_trace.specs.declared.command.ResourceArg.{ResourceArg}
use Rattle.sl_trace.specs.declared.effects.Mode.{Mode}
use Rattle.sl_trace.specs.declared.effects.Grant.{Grant}
use Rattle.sl_trace.specs.declared.effects.JoinStep.TheVariants.{ClaimWrite, FirstRead, FirstRenewal}
use Rattle.sl_trace.specs.declared.effects.LeaseRead.TheVariants.{OfArea, OfBlock, OfFree, OfPhase1, OfPhase2}
use Rattle.sl_trace.specs.declared.effects.LeaseStep.TheVariants.{ClearMode, FreeLeader, Phase1Read, Phase1Write, Phase2Read, Phase2Write, ReadAgain, ReadArea, ReadBeforeBlock, ReadBeforeFree, SetMode, TakeLeader}
use Rattle.sl_trace.specs.declared.effects.LeaseStep.{LeaseStep}
use Rattle.sl_trace.specs.declared.effects.Op.TheVariants.{ReadSectors, WriteRecord}
use Rattle.sl_trace.specs.declared.effects.Op.{Op}
use Rattle.sl_trace.specs.declared.effects.Purpose.TheVariants.{Joining, Lease, Leaving, Renewal, RequestRead, RequestWrite, SeeRequest, Survey, ValueRead, ValueWrite}
use Rattle.sl_trace.specs.declared.effects.Purpose.{Purpose}
use Rattle.sl_trace.specs.declared.effects.Signal.TheVariants.{Kill, Term}
use Rattle.sl_trace.specs.declared.effects.Spot.{Spot}
use Rattle.sl_trace.specs.declared.effects.Work.TheVariants.{ForJob, Settling}
use Rattle.sl_trace.specs.declared.effects.Work.{Work}
use Rattle.sl_trace.specs.declared.input.Answer.{Answer}
use Rattle.sl_trace.specs.declared.input.Input.TheVariants.{Answer as Told, Exit, Line, Number, Spawned, Wake}
use Rattle.sl_trace.specs.declared.input.Input.{Input}
use Rattle.sl_trace.specs.declared.reply.Reply.TheVariants.{BadCommand as Misread, Done, IoFault, IoTimeout, SpawnFault}
use Rattle.sl_run_law.proofs.Sessions.CallsAreMade.{IsNewCall, old_or_new, same_answered}
use Rattle.sl_words.proofs.CaseLaws.{none_some, some_value, true_is_false}
use Rattle.std.proofs.Common.{ap, inl, inr, refl, subst, sym, ◌∙◌}
use Rattle.std.specs.Prelude.{Bool, Contains, List, None, Ok, Some, [], false, is_some, length, option_and_then, true, ℕ, ◌∷◌, ◌≡◌, ◌⊎◌}

-- ---- what a call may be for, from where its act began

abbrev MaySuit : Step → Session → List ℕ → Purpose → ℕ → Op → Type 0
MaySuit x s path p o op = CallSuits x.setting (seen x) p op

-- No job's lease call.
plain_suits : (st : Setting) (t : Trace) (p : Purpose) (op : Op) → OpFits p op → ((j : ℕ) (step : LeaseStep) → p ≡ Lease (ForJob j) step → ⊥) → CallSuits st t p op
plain_suits st t p op fits none = record { op_fits = fits; step = λ j step c aim is named aimed. absurd (none j step is) }

abbrev pub is_lease : Purpose → Bool
is_lease (Lease work step) = true
is_lease p = false

pub no_lease : (p : Purpose) → is_lease p ≡ false → (j : ℕ) (step : LeaseStep) → p ≡ Lease (ForJob j) step → ⊥
no_lease p other j step is = true_is_false (sym (ap (λ q. is_lease q) is) ∙ other)

abbrev pub work_of : Work → Purpose → Work
work_of w (Lease work step) = work
work_of w p = w

abbrev step_of : LeaseStep → Purpose → LeaseStep
step_of b (Lease work step) = step
step_of b p = b

settling_suits : (st : Setting) (t : Trace) (step : LeaseStep) (op : Op) → CallSuits st t (Lease Settling step) op
settling_suits st t step op = plain_suits st t (Lease Settling step) op tt (λ j b is. none_some j (ap (λ p. job_of p) is))

-- A lease's call, of a job whose command's aim it serves.
work_suits : (st : Setting) (t : Trace) (work : Work) (step : LeaseStep) (op : Op) → ((j : ℕ) (c : Command) (aim : Aim) → work ≡ ForJob j → command_numbered st t j ≡ Some c → aim_of_command c ≡ Some aim → suits aim step ≡ true)
    → CallSuits st t (Lease work step) op
work_suits st t work step op h =
    record {
      op_fits = tt;
      step = λ j b c aim is named aimed. subst (λ z. suits aim z ≡ true) (ap (λ p. step_of step p) is) (h j c aim (ap (λ p. work_of work p) is) named aimed);
    }

-- ---- what is carried out

delta_suits : (x : Step) (s : Session) (n : DeltaNext) → DeltaAllowed Anything (MaySuit x) AnyMove x s n
delta_suits x s Nothing = tt
delta_suits x s (RefuseJoin r) = λ j its. (tt, λ z is. tt)
delta_suits x s (ReadOwn step) = λ j its. plain_suits _ _ (Joining j step) _ tt (no_lease (Joining j step) refl)
delta_suits x s (RegisterAndRead step) = λ j its. (tt, plain_suits _ _ (Joining j step) _ tt (no_lease (Joining j step) refl))
delta_suits x s (WriteClaim d) = λ j its. plain_suits _ _ (Joining j ClaimWrite) _ tt (no_lease (Joining j ClaimWrite) refl)
delta_suits x s Disconnect = tt
delta_suits x s (WriteFirst d) = λ j its. plain_suits _ _ (Joining j FirstRenewal) _ tt (no_lease (Joining j FirstRenewal) refl)
delta_suits x s (Join generation renewed) = λ j its. (tt, tt, plain_suits _ _ Survey _ tt (no_lease Survey refl))
delta_suits x s (MoveConnection renewed) = (tt, plain_suits _ _ Survey _ tt (no_lease Survey refl))
delta_suits x s (WriteRenewal d) = plain_suits _ _ Renewal _ tt (no_lease Renewal refl)
delta_suits x s (WriteFree j d) = plain_suits _ _ (Leaving j) _ tt (no_lease (Leaving j) refl)
delta_suits x s (EndLeaving j r) = (tt, tt)

-- What a lease decided, where each call of its own serves its job.
abbrev ServesJob : Step → Work → LeaseNext → Type 0
ServesJob x work n = (j : ℕ) (c : Command) (aim : Aim) → work ≡ ForJob j → command_numbered x.setting (seen x) j ≡ Some c → aim_of_command c ≡ Some aim → NextSuits aim n

reads_suit : (x y : Step) (s : Session) (at : Spot) (work : Work) (step : LeaseStep) → ((op : Op) → CallSuits x.setting (seen x) (Lease work step) op) → ReadAllowed (MaySuit x) y s at work step
reads_suit x y s at work (ReadArea name) h = h (ReadSectors (area_sectors y.setting.layout))
reads_suit x y s at work ReadBeforeFree h = h (ReadSectors (area_sectors y.setting.layout))
reads_suit x y s at work ReadBeforeBlock h = h (ReadSectors (block_sectors y.setting.layout))
reads_suit x y s at work (ReadAgain (OfArea name)) h = h (ReadSectors (area_sectors y.setting.layout))
reads_suit x y s at work (ReadAgain OfFree) h = h (ReadSectors (area_sectors y.setting.layout))
reads_suit x y s at work (ReadAgain OfBlock) h = h (ReadSectors (block_sectors y.setting.layout))
reads_suit x y s at work (ReadAgain OfPhase1) h = h (ReadSectors (block_sectors y.setting.layout))
reads_suit x y s at work (ReadAgain OfPhase2) h = h (ReadSectors (block_sectors y.setting.layout))
reads_suit x y s at work Phase1Write h = h (ReadSectors (block_sectors y.setting.layout))
reads_suit x y s at work Phase1Read h = h (ReadSectors (block_sectors y.setting.layout))
reads_suit x y s at work Phase2Write h = h (ReadSectors (block_sectors y.setting.layout))
reads_suit x y s at work Phase2Read h = h (ReadSectors (block_sectors y.setting.layout))
reads_suit x y s at work TakeLeader h = h (ReadSectors (block_sectors y.setting.layout))
reads_suit x y s at work SetMode h = h (ReadSectors (block_sectors y.setting.layout))
reads_suit x y s at work FreeLeader h = h (ReadSectors (block_sectors y.setting.layout))
reads_suit x y s at work ClearMode h = h (ReadSectors (block_sectors y.setting.layout))

lease_suits : (x y : Step) (s : Session) (at : Spot) (work : Work) (n : LeaseNext) → ServesJob x work n → LeaseAllowed Anything (MaySuit x) AnyStart y s at work n
lease_suits x y s at work No_lease h = tt
lease_suits x y s at work (ReadFor step) h = reads_suit x y s at work step (λ op. work_suits x.setting (seen x) work step op h)
lease_suits x y s at work (WriteBlock step b) h = work_suits x.setting (seen x) work step _ h
lease_suits x y s at work (WriteLeader step l) h = work_suits x.setting (seen x) work step (WriteRecord (leader_record y.setting.layout l)) h
lease_suits x y s at work (AnswerJob r) h = λ j is. tt
lease_suits x y s at work (GrantJob mode lver) h = λ j c is reads. grant_plain j lver c
lease_suits x y s at work (BecomeShared lver l) h = ((λ j is. tt), settling_suits x.setting (seen x) FreeLeader (WriteRecord (leader_record y.setting.layout l)))
lease_suits x y s at work (BecomeExclusive lver b) h = ((λ j is. tt), λ z same. settling_suits x.setting (seen x) ClearMode _)

request_suits : (x : Step) (s : Session) (j : ℕ) (bytes : List ℕ) (c : Command) → RequestAllowed Anything (MaySuit x) x s j bytes c
request_suits x s j bytes (Request r asked force) = ((λ why is. tt), plain_suits _ _ (RequestWrite j (owner_read x.setting.layout bytes)) _ refl (no_lease (RequestWrite j (owner_read x.setting.layout bytes)) refl))
request_suits x s j bytes (AddLockspace a) = tt
request_suits x s j bytes (RemLockspace a) = tt
request_suits x s j bytes (InqLockspace a) = tt
request_suits x s j bytes (HostStatus a) = tt
request_suits x s j bytes (Acquire r shared p persistent) = tt
request_suits x s j bytes (TakeOver r shared p persistent) = tt
request_suits x s j bytes (Release r p) = tt
request_suits x s j bytes (ReleaseOrphan r) = tt
request_suits x s j bytes (Convert r shared p) = tt
request_suits x s j bytes (RunProgram r shared path) = tt
request_suits x s j bytes (GetLvb r p) = tt
request_suits x s j bytes (SetLvb r p other) = tt
request_suits x s j bytes (SetKillpath p path) = tt
request_suits x s j bytes Status = tt

-- ---- effects

-- The commands of jobs are what they were.
record SameJobs (x y : Step) : Type 0 where
  setting : y.setting ≡ x.setting
  commands : (j : ℕ) → command_numbered x.setting (seen y) j ≡ command_numbered x.setting (seen x) j

abbrev Suiting : Step → Step → Type 0
Suiting x y = SameJobs x y × ((c : Call) → Contains y.effects.calls c → CallSuits x.setting (seen x) c.purpose c.op)

suiting : (x : Step) → Allows (Suiting x) (Suiting x) Anything (MaySuit x) AnyStart AnyMove
suiting x =
    record {
      ends = λ y e k. (record { setting = k.0.setting; commands = k.0.commands }, k.1);
      signals = λ y p g k. (record { setting = k.0.setting; commands = k.0.commands }, k.1);
      moves = λ y m may k. (record { setting = k.0.setting; commands = k.0.commands }, k.1);
      grants = λ y g k. (record { setting = k.0.setting; commands = k.0.commands }, k.1);
      starts = λ y start may k. (record { setting = k.0.setting; commands = k.0.commands }, k.1);
      replies = λ y j r may k. (record { setting = k.0.setting; commands = k.0.commands }, k.1);
      calls = λ y s path p o op may k. (
        record { setting = k.0.setting; commands = k.0.commands },
        λ c there. by y.effects.calls c k.1 (record { number = next_call y.setting (seen y); session = s.number; purpose = p; path = path; offset = o; op = op }) may
            (contains_last y.effects.calls (record { number = next_call y.setting (seen y); session = s.number; purpose = p; path = path; offset = o; op = op }) c there),
      );
      rest = λ y k. k;
    } where
      by : (cs : List Call) (c : Call) → ((d : Call) → Contains cs d → CallSuits x.setting (seen x) d.purpose d.op) → (new : Call) → CallSuits x.setting (seen x) new.purpose new.op → Contains cs c ⊎ (new ≡ c)
          → CallSuits x.setting (seen x) c.purpose c.op
      by cs c h new may (inl old) = h c old
      by cs c h new may (inr is) = subst (λ (d : Call). CallSuits x.setting (seen x) d.purpose d.op) is may

again : (st : Setting) (t u : Trace) (p : Purpose) (op : Op) → ((j : ℕ) → command_numbered st u j ≡ command_numbered st t j) → CallSuits st t p op → CallSuits st u p op
again st t u p op same h = record { op_fits = h.op_fits; step = λ j step c aim is named aimed. h.step j step c aim is (sym (same j) ∙ named) aimed }

end_suiting : (x y : Step) → Suiting x y → NewSuit y
end_suiting x y k = λ c there. subst (λ st. CallSuits st (seen y) c.purpose c.op) (sym k.0.setting) (again x.setting (seen x) (seen y) c.purpose c.op k.0.commands (k.1 c there))

begin_suiting : (x : Step) → NewSuit x → Suiting x x
begin_suiting x h = (record { setting = refl; commands = λ j. refl }, h)

bare_suits : (x : Step) → x.effects.calls ≡ [] → NewSuit x
bare_suits x bare c there = absurd (contains_none c (subst (λ cs. Contains cs c) bare there))

-- ---- an answer to a lease's call

-- The call that is answered suits its job too.
pub heard_suits : (x : Step) (s : Session) (m : Submitted) (answer : Answer) → Kept x → AllSuit x.setting x.past → Hears x s m answer → CallSuits x.setting (seen x) m.call.purpose m.call.op
heard_suits x s m answer k all hears =
    let b : HeardBefore x m = heard_before x s m answer k hears in
    let old : CallSuits x.setting x.past m.call.purpose m.call.op = subst (λ (c : Call). CallSuits x.setting x.past c.purpose c.op) b.same (all b.before b.there) in
    record { op_fits = old.op_fits; step = λ j step c aim is named aimed. old.step j step c aim is (b.command j c (ap (λ p. job_of p) is) named) aimed }

led_serves : (x : Step) (s : Session) (at : Spot) (work : Work) (step : LeaseStep) (m : Submitted) (answer : Answer) (aim : Aim) → Kept x → AllSuit x.setting x.past → Hears x s m answer → m.call.purpose ≡ Lease work step
    → aim_of x.setting (seen x) work ≡ Some aim → ServesJob x work (next_of_lease x.setting (seen x) s at aim m step answer)
led_serves x s at work step m answer aim k all hears is aimed j c a its named of =
    let ours : aim ≡ a =
    some_value aim a (sym aimed ∙ (ap (λ w. aim_of x.setting (seen x) w) its ∙ (ap (λ o. option_and_then aim_of_command o) named ∙ of))) in
    subst (λ z. NextSuits z (next_of_lease x.setting (seen x) s at aim m step answer)) ours
    (within_suits (lease_place x.setting s) (known x.setting (seen x) s at) aim aim _
    (next_suits (lease_place x.setting s) (known x.setting (seen x) s at) aim m.call.number (lver_written m) step answer
    (subst (λ z. suits z step ≡ true) (sym ours) ((heard_suits x s m answer k all hears).step j step c a (is ∙ ap (λ w. Lease w step) its) named of))))

-- ---- lines

-- The command of the line's job, once the line is seen.
pub line_reads : (x : Step) (text : List ℕ) (c : Command) → x.input ≡ Wake → x.setting.read text ≡ Ok c → command_numbered x.setting (seen (with_input (Line text) x)) (next_job x.setting (seen x)) ≡ Some c
line_reads x text c wake says = ap (λ o. option_and_then command_of o) (line_seen x text wake) ∙ ap (λ r. command_of (record { number = next_job x.setting x.past; at = length x.past; reading = x.reading; command = r })) says

decision_suits : (x : Step) (text : List ℕ) (c : Command) (d : Decision) → x.input ≡ Wake → x.setting.read text ≡ Ok c → decided x.setting (seen x) x.reading c ≡ d
    → DecisionAllowed (Suiting (with_input (Line text) x)) Anything (MaySuit (with_input (Line text) x)) AnyStart (with_input (Line text) x) (next_job x.setting (seen x)) c d
decision_suits x text c d wake says is = by d (subst (λ z. HasGrounds x.setting (seen x) c z) is (decisions_have_grounds x.setting (seen x) x.reading c)) where
  y : Step
  y = with_input (Line text) x

  j : ℕ
  j = next_job x.setting (seen x)

  -- the job's command and aim are the line's
  serves : (n : LeaseNext) (mine : Aim) → aim_of_command c ≡ Some mine → NextSuits mine n → ServesJob (with_input (Line text) x) (ForJob (next_job x.setting (seen x))) n
  serves n mine aimed fits i d aim its named of =
      let number : next_job x.setting (seen x) ≡ i = some_value (next_job x.setting (seen x)) i (ap (λ w. work_job w) its) in
      let same : c ≡ d = some_value c d (sym (line_reads x text c wake says) ∙ (ap (λ k. command_numbered x.setting (seen (with_input (Line text) x)) k) number ∙ named)) in
      let ours : mine ≡ aim = some_value mine aim (sym aimed ∙ (ap (λ z. aim_of_command z) same ∙ of)) in
      subst (λ z. NextSuits z n) ours fits

  acquires : (b : Command) (r : ResourceArg) → AsksLease b r → (mode : Mode) × (aim_of_command b ≡ Some (Acquires mode))
  acquires b r (inl a) = (_, ap (λ z. aim_of_command z) a.3)
  acquires b r (inr a) = (_, ap (λ z. aim_of_command z) a.2)

  releases : (b : Command) (r : ResourceArg) (g : Grant) → IsReleased b r g → aim_of_command b ≡ Some Releases
  releases b r g (inl a) = ap (λ z. aim_of_command z) a.1
  releases b r g (inr a) = ap (λ z. aim_of_command z) a.0

  by : (d : Decision) → HasGrounds x.setting (seen x) c d
      → DecisionAllowed (Suiting (with_input (Line text) x)) Anything (MaySuit (with_input (Line text) x)) AnyStart (with_input (Line text) x) (next_job x.setting (seen x)) c d
  by (Replies r) g = tt
  by (Joins n a) g = λ z its. plain_suits _ _ (Joining (next_job x.setting (seen x)) FirstRead) _ tt (no_lease (Joining (next_job x.setting (seen x)) FirstRead) refl)
  by (Leaves s) g = (tt, λ z k i there. tt)
  by (ReadsArea s r) g =
      let a = acquires c r g.acquires.asks in
      work_suits _ _ (ForJob (next_job x.setting (seen x))) (ReadArea r.name) (ReadSectors (area_sectors x.setting.layout)) (serves (ReadFor (ReadArea r.name)) (Acquires a.0) a.1 refl)
  by (Shares s lver) g = grant_plain (next_job x.setting (seen x)) lver c
  by (GivesUp s e) g =
      let z : Step = add_end (end_of e) y in (
        tt,
        lease_suits y z s (spot_of_grant e) (ForJob (next_job x.setting (seen x))) (next_of_release x.setting (seen z) s (spot_of_grant e) e)
            (serves (next_of_release x.setting (seen z) s (spot_of_grant e) e) Releases (releases c g.resource e g.releases)
            (within_suits (lease_place x.setting s) (known x.setting (seen z) s (spot_of_grant e)) Releases Releases _
            (release_suits (lease_place x.setting s) (known x.setting (seen z) s (spot_of_grant e)) e.mode e.lver))),
      )
  by (TakesOver s e) g = grant_plain (next_job x.setting (seen x)) e.lver c
  by (ConvertsTo s r mode) g =
      let n : LeaseNext = next_of_conversion x.setting (seen y) s (spot_of r) mode r.name in
      lease_suits y y s (spot_of r) (ForJob (next_job x.setting (seen x))) n (serves n (Converts (wanted_mode (Convert r g.shared g.process))) (ap (λ z. aim_of_command z) g.command)
      (within_suits (lease_place x.setting s) (known x.setting (seen y) s (spot_of r)) (Converts (wanted_mode (Convert r g.shared g.process))) (Converts mode) _
      (conversion_suits (known x.setting (seen y) s (spot_of r)) (wanted_mode (Convert r g.shared g.process)) mode r.name)))
  by (Requests s r) g = plain_suits _ _ (RequestRead (next_job x.setting (seen x))) _ refl (no_lease (RequestRead (next_job x.setting (seen x))) refl)
  by (SetsValue s at v) g = plain_suits _ _ (ValueWrite (next_job x.setting (seen x))) _ refl (no_lease (ValueWrite (next_job x.setting (seen x))) refl)
  by (GetsValue s at) g = plain_suits _ _ (ValueRead (next_job x.setting (seen x))) _ refl (no_lease (ValueRead (next_job x.setting (seen x))) refl)

carried_suits : (x : Step) (text : List ℕ) (c : Command) (d : Decision) → x.input ≡ Wake → x.effects.calls ≡ [] → x.setting.read text ≡ Ok c → decided x.setting (seen x) x.reading c ≡ d
    → NewSuit (carry_decision (next_job x.setting (seen x)) c d (with_input (Line text) x))
unfolding carry_decision
carried_suits x text c d wake bare says is =
    end_suiting y (carry_decision (next_job x.setting (seen x)) c d y)
    (decision (Suiting y) (Suiting y) Anything (MaySuit y) AnyStart AnyMove (suiting y) y (next_job x.setting (seen x)) c d (decision_suits x text c d wake says is)
    (λ n a joins. (
      record { setting = refl; commands = λ j. refl },
      λ e there. begun n a e
          (contains_last x.effects.calls
          (record { number = next_call x.setting (seen y); session = n; purpose = Joining (next_job x.setting (seen x)) FirstRead; path = a.path; offset = delta_offset x.setting.layout a.offset a.id; op = ReadSectors 1 }) e there),
    )) first)
  where
    y : Step
    y = with_input (Line text) x

    first : Suiting (with_input (Line text) x) (with_input (Line text) x)
    first = begin_suiting (with_input (Line text) x) (bare_suits (with_input (Line text) x) bare)

    begun : (n : ℕ) (a : LockspaceArg) (e : Call)
        → Contains x.effects.calls e
        ⊎ (record { number = next_call x.setting (seen y); session = n; purpose = Joining (next_job x.setting (seen x)) FirstRead; path = a.path; offset = delta_offset x.setting.layout a.offset a.id; op = ReadSectors 1 } ≡ e)
        → CallSuits x.setting (seen (with_input (Line text) x)) e.purpose e.op
    begun n a e (inl old) = bare_suits (with_input (Line text) x) bare e old
    begun n a e (inr is) =
        subst (λ (d : Call). CallSuits x.setting (seen (with_input (Line text) x)) d.purpose d.op) is
        (plain_suits x.setting (seen (with_input (Line text) x)) (Joining (next_job x.setting (seen x)) FirstRead) (ReadSectors 1) tt (no_lease (Joining (next_job x.setting (seen x)) FirstRead) refl))

-- ---- all acts

-- What each act rests on.
pub record KnowsSuits (x : Step) : Type 0 where
  pub known : Kept x
  pub past : AllSuit x.setting x.past
  pub so_far : NewSuit x

pub calls_suit : Acts KnowsSuits NewSuit
unfolding after_value_read
calls_suit =
    record {
      kills = λ x s has due h. end_suiting x _ (signalled (Suiting x) (Suiting x) Anything (MaySuit x) AnyStart AnyMove (suiting x) tt x Kill s (begin_suiting x h.so_far));
      times_out = λ x j m wake bare runs waits late_one h.
          end_suiting x _ (refusal (Suiting x) (Suiting x) Anything (MaySuit x) AnyStart AnyMove (suiting x) x j (IoTimeout m.call.number m.reading x.reading) tt (λ z is. tt) (begin_suiting x h.so_far));
      hears = λ x number answer wake bare expected h. bare_suits (with_input (Told number answer) x) bare;
      counts = λ x text wake bare h. bare_suits (with_input (Number text) x) bare;
      exits = λ x n wake bare one h.
          let w : Step = with_input (Exit n) x in
          end_suiting w _ (exited (Suiting w) (Suiting w) Anything (MaySuit w) AnyStart AnyMove (suiting w) (leave_holdings n w) n (λ j there. tt)
          (left (Suiting w) (Suiting w) Anything (MaySuit w) AnyStart AnyMove (suiting w) w n (begin_suiting w (bare_suits w bare))));
      exits_as_none = λ x n wake bare none h. bare_suits (with_input (Exit n) x) bare;
      starts = λ x n ok wake bare expected h. bare_suits (with_input (Spawned n ok) x) bare;
      fails_to_start = λ x n input h.
          end_suiting x _ (said (Suiting x) (Suiting x) Anything (MaySuit x) AnyStart AnyMove (suiting x) (end_holdings n x) (job_of_start (seen x) n) SpawnFault (λ j is. tt)
          (ended (Suiting x) (Suiting x) Anything (MaySuit x) AnyStart AnyMove (suiting x) x n (begin_suiting x h.so_far)));
      signals_instead = λ x n o input stood h. end_suiting x _ ((suiting x).signals x o Term (begin_suiting x h.so_far));
      says_started = λ x n j input is runs h. end_suiting x _ ((suiting x).replies x j (started_reply (seen x) n) tt (begin_suiting x h.so_far));
      misreads = λ x text column wake bare says h. bare_suits (add_reply (next_job x.setting (seen x)) (Misread column) (with_input (Line text) x)) bare;
      answers = λ x text c r wake bare says is h. bare_suits (add_reply (next_job x.setting (seen x)) r (with_input (Line text) x)) bare;
      carries = λ x text c d wake bare says is more h. carried_suits x text c d wake bare says is;
      joins_on = λ x s j step m answer hears is runs h.
          let n : DeltaNext = next_in_joining (delta_of_session x.setting s) (generation_of (seen x) s) (calls_of (seen x) s) x.reading m step answer in
          end_suiting x _ (delta (Suiting x) (Suiting x) Anything (MaySuit x) AnyStart AnyMove (suiting x) x s n (delta_suits x s n) (begin_suiting x h.so_far));
      ends_joining = λ x s j step m answer hears is stops h. end_suiting x _ (removal_of_refused (Suiting x) (Suiting x) Anything (MaySuit x) AnyStart AnyMove (suiting x) x s tt (begin_suiting x h.so_far));
      renewed = λ x s m answer hears is h.
          let n : DeltaNext = next_after_renewal (is_some (recovery_of x.setting (seen x) s)) m.reading answer in
          end_suiting x _ (delta (Suiting x) (Suiting x) Anything (MaySuit x) AnyStart AnyMove (suiting x) x s n (delta_suits x s n) (begin_suiting x h.so_far));
      freed = λ x s j m answer hears is h.
          let n : DeltaNext = next_after_free j m.call.number answer in
          end_suiting x _ (delta (Suiting x) (Suiting x) Anything (MaySuit x) AnyStart AnyMove (suiting x) x s n (delta_suits x s n) (begin_suiting x h.so_far));
      shown = λ x s m bytes hears is joined begins h.
          end_suiting x _ (stopped (Suiting x) (Suiting x) Anything (MaySuit x) AnyStart AnyMove (suiting x) tt x s None (λ z k j there. tt) (begin_suiting x h.so_far));
      sees = λ x s number bytes spot g has input held h.
          end_suiting x _ ((suiting x).calls x s g.path SeeRequest (request_offset x.setting.layout g.offset) (ReadSectors 1) (plain_suits x.setting (seen x) SeeRequest (ReadSectors 1) tt (no_lease SeeRequest refl)) (begin_suiting x h.so_far));
      leads_on = λ x s work step m answer aim hears is on aims h.
          let at : Spot = spot_of_call x.setting.layout m in
          let n : LeaseNext = next_of_lease x.setting (seen x) s at aim m step answer in
          end_suiting x _ (lease (Suiting x) (Suiting x) Anything (MaySuit x) AnyStart AnyMove (suiting x) x s at work n
          (lease_suits x x s at work n (led_serves x s at work step m answer aim h.known h.past hears is aims)) (begin_suiting x h.so_far));
      fails = λ x s m j hears lone runs h. end_suiting x _ ((suiting x).replies x j (IoFault m.call.number) tt (begin_suiting x h.so_far));
      has_asked = λ x s m j owner hears is runs h. end_suiting x _ ((suiting x).replies x j Done tt (begin_suiting x h.so_far));
      has_set = λ x s m j hears is runs h. end_suiting x _ ((suiting x).replies x j (set_reply m) tt (begin_suiting x h.so_far));
      asks = λ x s m j bytes c hears is runs reads_one h.
          end_suiting x _ (requested (Suiting x) (Suiting x) Anything (MaySuit x) AnyStart AnyMove (suiting x) x s j bytes c (request_suits x s j bytes c) (begin_suiting x h.so_far));
      tells = λ x s m j bytes hears is runs h. end_suiting x _ ((suiting x).replies x j (value_reply x.setting.layout bytes) tt (begin_suiting x h.so_far));
      warns = λ x s m bytes g signal hears is held own says h.
          end_suiting x _ (sent (Suiting x) (Suiting x) Anything (MaySuit x) AnyStart AnyMove (suiting x) tt x g.process signal (begin_suiting x h.so_far));
      joins_in_time = λ x s j has wake is runs h.
          let n : DeltaNext = next_on_wake (delta_of_session x.setting s) x.reading (calls_of (seen x) s) in
          end_suiting x _ (delta (Suiting x) (Suiting x) Anything (MaySuit x) AnyStart AnyMove (suiting x) x s n (delta_suits x s n) (begin_suiting x h.so_far));
      renews = λ x s has wake joined h.
          let n : DeltaNext = next_renewal (delta_of_session x.setting s) x.reading (delta_known x.setting (seen x) s) (bits_due x.setting (calls_of (seen x) s) x.reading) in
          end_suiting x _ (delta (Suiting x) (Suiting x) Anything (MaySuit x) AnyStart AnyMove (suiting x) x s n (delta_suits x s n) (begin_suiting x h.so_far));
      settles = λ x s spot has wake active whole none h.
          let n : LeaseNext = next_of_settling x.setting (seen x) s spot in
          end_suiting x _ (lease (Suiting x) (Suiting x) Anything (MaySuit x) AnyStart AnyMove (suiting x) x s spot Settling n
          (lease_suits x x s spot Settling n (λ j c aim its. absurd (none_some j (ap (λ w. work_job w) its)))) (begin_suiting x h.so_far));
      parts = λ x s p1 p2 p3 p4 p5 h. end_suiting x _ (removal (Suiting x) (Suiting x) Anything (MaySuit x) AnyStart AnyMove (suiting x) x s.lockspace tt (begin_suiting x h.so_far));
      frees = λ x s p1 p2 p3 p4 p5 h.
          let n : DeltaNext = next_free (delta_of_session x.setting s) x.reading (delta_known x.setting (seen x) s) in
          end_suiting x _ (delta (Suiting x) (Suiting x) Anything (MaySuit x) AnyStart AnyMove (suiting x) x s n (delta_suits x s n) (begin_suiting x h.so_far));
    }

pub suits_begin : (st : Setting) (past : Trace) (now : ℕ) → NewSuit (begin_recoveries (begin_step st past now))
suits_begin st past now = subst (λ y. NewSuit y) (sym (begun_says st past now).is) (λ c there. absurd (contains_none c there))

-- ---- an entry's end

-- With those before it.
pub all_suit : (st : Setting) (past : Trace) (e : Entry) → JobFacts st past None → AllSuit st past → ((c : Call) → Contains e.effects.calls c → CallSuits st (e ∷ past) c.purpose c.op) → AllSuit st (e ∷ past)
all_suit st past e jobs all new m there = by (old_or_new (length past) e.reading e.effects.calls (mark past e e.input (submitted past)) m there) where
  later : (b : Submitted) → Contains (submitted past) b → b.call ≡ m.call → CallSuits st (e ∷ past) m.call.purpose m.call.op
  later b inside same =
      subst (λ (c : Call). CallSuits st (e ∷ past) c.purpose c.op) same
      (record {
        op_fits = (all b inside).op_fits;
        step = λ j step c aim is named aimed.
            (all b inside).step j step c aim is (command_past st past e b j c jobs inside (ap (λ p. job_of p) is) named) aimed;
      })

  marked : (i : Input) → Contains (mark past e i (submitted past)) m → CallSuits st (e ∷ past) m.call.purpose m.call.op
  marked (Told n a) inside =
      let d = in_map (answered_in past e n a) (submitted past) m inside in
      later d.0 d.1 (sym (same_answered past e n a d.0).call ∙ ap (λ (z : Submitted). z.call) d.2)
  marked (Line text) inside = later m inside refl
  marked (Number text) inside = later m inside refl
  marked (Exit p) inside = later m inside refl
  marked (Spawned p ok) inside = later m inside refl
  marked Wake inside = later m inside refl

  by : Contains (mark past e e.input (submitted past)) m ⊎ IsNewCall (length past) e.reading e.effects.calls m → CallSuits st (e ∷ past) m.call.purpose m.call.op
  by (inl old) = marked e.input old
  by (inr n) = new m.call (got_inside e.effects.calls n.index m.call n.call)
