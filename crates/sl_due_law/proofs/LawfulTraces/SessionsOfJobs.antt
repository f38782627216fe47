-- The lease calls of a job are of one session.
use Rattle.sl_due_facts.proofs.Acts.AddedAtEnd.{contains_last}
use Rattle.sl_due_facts.specs.Acts.Acts.{Acts, Hears, next_of_conversion, next_of_release, next_of_settling}
use Rattle.sl_area.specs.AreaLayout.{delta_offset, request_offset}
use Rattle.sl_due.specs.DueAnswers.{set_reply}
use Rattle.sl_due.specs.DueCommands.{carry_decision}
use Rattle.sl_due.specs.DueRecovery.{begin_recoveries}
use Rattle.sl_due.specs.DueInputs.{end_holdings, leave_holdings, started_reply}
use Rattle.sl_due.specs.CarriedLease.{next_of_lease}
use Rattle.sl_due.specs.DueRequests.{after_value_read, bits_due, owner_read, value_reply}
use Rattle.sl_due.specs.Steps.{Step, add_end, add_reply, begin_step, seen, with_input}
use Rattle.sl_due.specs.declared.decision.Decision.TheVariants.{ConvertsTo, GetsValue, GivesUp, Joins, Leaves, ReadsArea, Replies, Requests, SetsValue, Shares, TakesOver}
use Rattle.sl_due.specs.declared.decision.Decision.{Decision}
use Rattle.sl_due_facts.proofs.Jobs.EffectsAreAllowed.{Allows, DecisionAllowed, DeltaAllowed, LeaseAllowed, ReadAllowed, RequestAllowed, decision, delta, ended, exited, lease, left, refusal, removal, removal_of_refused, requested, said, sent, signalled, stopped}
use Rattle.sl_due_facts.proofs.Jobs.JobsAreNumbered.{next_before, next_is_new}
use Rattle.sl_due_leases.proofs.Holdings.LeaseCallers.{heard_session}
use Rattle.sl_due_facts.proofs.Jobs.NearlyPlainActs.{AnyMove, AnyStart, Anything, grant_plain}
use Rattle.sl_due_law.proofs.Recovery.StopsBegin.{begun_says}
use Rattle.sl_due_law.proofs.LawfulTraces.CallsSuit.{no_lease, work_of}
use Rattle.sl_due_law.proofs.LawfulTraces.HeardBefore.{HeardBefore, heard_before}
use Rattle.sl_due_facts.specs.Facts.JobFacts.{JobFacts}
use Rattle.sl_due_law.specs.LawfulTraces.JobLore.{NewSessions, OneSession, SameSession}
use Rattle.sl_due_law.specs.LawfulTraces.CarriedFacts.{Kept}
use Rattle.sl_trace.specs.Jobs.{command_numbered, command_of, job_of_start}
use Rattle.sl_trace.specs.Leases.{spot_of, spot_of_call}
use Rattle.sl_trace.specs.declared.lease.LeaseNext.TheVariants.{AnswerJob, BecomeExclusive, BecomeShared, GrantJob, Nothing as No_lease, ReadFor, WriteBlock, WriteLeader}
use Rattle.sl_trace.specs.declared.lease.LeaseNext.{LeaseNext}
use Rattle.sl_words.proofs.Options.{some_of}
use Rattle.sl_words.proofs.Lists.{contains_none, got_inside, in_map}
use Rattle.sl_trace.specs.DeltaDecisions.{delta_known, delta_of_session, next_after_free, next_after_renewal, next_free, next_in_joining, next_on_wake, next_renewal}
use Rattle.sl_trace.specs.Sessions.{calls_of, generation_of, recovery_of}
use Rattle.sl_trace.specs.declared.delta.DeltaNext.TheVariants.{Disconnect, EndLeaving, Join, MoveConnection, Nothing, ReadOwn, RefuseJoin, RegisterAndRead, WriteClaim, WriteFirst, WriteFree, WriteRenewal}
use Rattle.sl_trace.specs.declared.delta.DeltaNext.{DeltaNext}
use Rattle.sl_trace.specs.declared.session.Session.{Session}
use Rattle.sl_trace.specs.Traces.{job_numbered, Setting, Submitted, Trace, answered_in, end_of, job_of, jobs, mark, next_call, next_job, spot_of_grant, submitted, work_job}
use Rattle.sl_trace.specs.declared.command.Command.TheVariants.{Acquire, AddLockspace, Convert, GetLvb, HostStatus, InqLockspace, Release, ReleaseOrphan, RemLockspace, Request, RunProgram, SetKillpath, SetLvb, Status, TakeOver}
use Rattle.sl_trace.specs.declared.command.Command.{Command}
use Rattle.sl_trace.specs.declared.effects.Call.{Call}
use Rattle.sl_trace.specs.declared.effects.Entry.{Entry}
use Rattle.sl_trace.specs.declared.command.LockspaceArg.{LockspaceArg}
use Rattle.sl_trace.specs.declared.effects.JoinStep.TheVariants.{ClaimWrite, FirstRead, FirstRenewal}
use Rattle.sl_trace.specs.declared.effects.LeaseStep.TheVariants.{ClearMode, FreeLeader, Phase1Read, Phase1Write, Phase2Read, Phase2Write, ReadAgain, ReadArea, ReadBeforeBlock, ReadBeforeFree, SetMode, TakeLeader}
use Rattle.sl_trace.specs.declared.effects.LeaseStep.{LeaseStep}
use Rattle.sl_trace.specs.declared.effects.Op.TheVariants.{ReadSectors}
use Rattle.sl_trace.specs.declared.effects.Op.{Op}
use Rattle.sl_trace.specs.declared.effects.Purpose.TheVariants.{Joining, Lease, Leaving, Renewal, RequestRead, RequestWrite, SeeRequest, Survey, ValueRead, ValueWrite}
use Rattle.sl_trace.specs.declared.effects.Purpose.{Purpose}
use Rattle.sl_trace.specs.declared.effects.Signal.TheVariants.{Kill, Term}
use Rattle.sl_trace.specs.declared.effects.Spot.{Spot}
use Rattle.sl_trace.specs.declared.effects.Work.TheVariants.{ForJob, Settling}
use Rattle.sl_trace.specs.declared.effects.Work.{Work}
use Rattle.sl_trace.specs.declared.input.Answer.{Answer}
use Rattle.sl_trace.specs.declared.input.Input.TheVariants.{Answer as Told, Exit, Line, Number, Spawned, Wake}
use Rattle.sl_trace.specs.declared.input.Input.{Input}
use Rattle.sl_trace.specs.declared.reply.Reply.TheVariants.{BadCommand as Misread, Done, IoFault, IoTimeout, SpawnFault}
use Rattle.sl_run_law.proofs.Sessions.CallsAreMade.{IsNewCall, old_or_new, same_answered}
use Rattle.sl_words.proofs.CaseLaws.{none_some, some_value}
use Rattle.sl_trace.specs.declared.effects.LeaseRead.TheVariants.{OfArea, OfBlock, OfFree, OfPhase1, OfPhase2}
use Rattle.std.proofs.Common.{ap, inl, inr, refl, subst, sym, ◌∙◌}
use Rattle.std.specs.Prelude.{Contains, List, None, Ok, Some, [], is_some, length, option_and_then, ℕ, ◌∷◌, ◌≡◌, ◌⊎◌}

-- ---- what a call may be for, from where its act began

abbrev MayBe : Step → Session → List ℕ → Purpose → ℕ → Op → Type 0
MayBe x s path p o op = SameSession x.past s.number p

plain_session : (x : Step) (n : ℕ) (p : Purpose) → ((j : ℕ) (step : LeaseStep) → p ≡ Lease (ForJob j) step → ⊥) → SameSession x.past n p
plain_session x n p none j step before d is = absurd (none j step is)

settling_session : (x : Step) (s : Session) (step : LeaseStep) → SameSession x.past s.number (Lease Settling step)
settling_session x s step = plain_session x s.number (Lease Settling step) (λ j b is. none_some j (ap (λ p. job_of p) is))

-- The job's calls so far are the session's.
abbrev IsTheirs : Step → Session → Work → Type 0
IsTheirs x s work = (j : ℕ) (before : LeaseStep) (d : Submitted) → work ≡ ForJob j → Contains (submitted x.past) d → d.call.purpose ≡ Lease (ForJob j) before → d.call.session ≡ s.number

work_session : (x : Step) (s : Session) (work : Work) (step : LeaseStep) → IsTheirs x s work → SameSession x.past s.number (Lease work step)
work_session x s work step h j b before d is there of = h j before d (ap (λ p. work_of work p) is) there of

-- ---- what is carried out

delta_sessions : (x : Step) (s : Session) (n : DeltaNext) → DeltaAllowed Anything (MayBe x) AnyMove x s n
delta_sessions x s Nothing = tt
delta_sessions x s (RefuseJoin r) = λ j its. (tt, λ z is. tt)
delta_sessions x s (ReadOwn step) = λ j its. plain_session x s.number (Joining j step) (no_lease (Joining j step) refl)
delta_sessions x s (RegisterAndRead step) = λ j its. (tt, plain_session x s.number (Joining j step) (no_lease (Joining j step) refl))
delta_sessions x s (WriteClaim d) = λ j its. plain_session x s.number (Joining j ClaimWrite) (no_lease (Joining j ClaimWrite) refl)
delta_sessions x s Disconnect = tt
delta_sessions x s (WriteFirst d) = λ j its. plain_session x s.number (Joining j FirstRenewal) (no_lease (Joining j FirstRenewal) refl)
delta_sessions x s (Join generation renewed) = λ j its. (tt, tt, plain_session x s.number Survey (no_lease Survey refl))
delta_sessions x s (MoveConnection renewed) = (tt, plain_session x s.number Survey (no_lease Survey refl))
delta_sessions x s (WriteRenewal d) = plain_session x s.number Renewal (no_lease Renewal refl)
delta_sessions x s (WriteFree j d) = plain_session x s.number (Leaving j) (no_lease (Leaving j) refl)
delta_sessions x s (EndLeaving j r) = (tt, tt)

reads_session : (x y : Step) (s : Session) (at : Spot) (work : Work) (step : LeaseStep) → SameSession x.past s.number (Lease work step) → ReadAllowed (MayBe x) y s at work step
reads_session x y s at work (ReadArea name) h = h
reads_session x y s at work ReadBeforeFree h = h
reads_session x y s at work ReadBeforeBlock h = h
reads_session x y s at work (ReadAgain (OfArea name)) h = h
reads_session x y s at work (ReadAgain OfFree) h = h
reads_session x y s at work (ReadAgain OfBlock) h = h
reads_session x y s at work (ReadAgain OfPhase1) h = h
reads_session x y s at work (ReadAgain OfPhase2) h = h
reads_session x y s at work Phase1Write h = h
reads_session x y s at work Phase1Read h = h
reads_session x y s at work Phase2Write h = h
reads_session x y s at work Phase2Read h = h
reads_session x y s at work TakeLeader h = h
reads_session x y s at work SetMode h = h
reads_session x y s at work FreeLeader h = h
reads_session x y s at work ClearMode h = h

lease_sessions : (x y : Step) (s : Session) (at : Spot) (work : Work) (n : LeaseNext) → IsTheirs x s work → LeaseAllowed Anything (MayBe x) AnyStart y s at work n
lease_sessions x y s at work No_lease h = tt
lease_sessions x y s at work (ReadFor step) h = reads_session x y s at work step (work_session x s work step h)
lease_sessions x y s at work (WriteBlock step b) h = work_session x s work step h
lease_sessions x y s at work (WriteLeader step l) h = work_session x s work step h
lease_sessions x y s at work (AnswerJob r) h = λ j is. tt
lease_sessions x y s at work (GrantJob mode lver) h = λ j c is reads. grant_plain j lver c
lease_sessions x y s at work (BecomeShared lver l) h = ((λ j is. tt), settling_session x s FreeLeader)
lease_sessions x y s at work (BecomeExclusive lver b) h = ((λ j is. tt), λ z same. settling_session x s ClearMode)

request_sessions : (x : Step) (s : Session) (j : ℕ) (bytes : List ℕ) (c : Command) → RequestAllowed Anything (MayBe x) x s j bytes c
request_sessions x s j bytes (Request r asked force) = ((λ why is. tt), plain_session x s.number (RequestWrite j (owner_read x.setting.layout bytes)) (no_lease (RequestWrite j (owner_read x.setting.layout bytes)) refl))
request_sessions x s j bytes (AddLockspace a) = tt
request_sessions x s j bytes (RemLockspace a) = tt
request_sessions x s j bytes (InqLockspace a) = tt
request_sessions x s j bytes (HostStatus a) = tt
request_sessions x s j bytes (Acquire r shared p persistent) = tt
request_sessions x s j bytes (TakeOver r shared p persistent) = tt
request_sessions x s j bytes (Release r p) = tt
request_sessions x s j bytes (ReleaseOrphan r) = tt
request_sessions x s j bytes (Convert r shared p) = tt
request_sessions x s j bytes (RunProgram r shared path) = tt
request_sessions x s j bytes (GetLvb r p) = tt
request_sessions x s j bytes (SetLvb r p other) = tt
request_sessions x s j bytes (SetKillpath p path) = tt
request_sessions x s j bytes Status = tt

-- ---- effects

abbrev Staying : Step → Step → Type 0
Staying x y = (y.past ≡ x.past) × ((c : Call) → Contains y.effects.calls c → SameSession x.past c.session c.purpose)

staying : (x : Step) → Allows (Staying x) (Staying x) Anything (MayBe x) AnyStart AnyMove
staying x =
    record {
      ends = λ y e k. k;
      signals = λ y p g k. k;
      moves = λ y m may k. k;
      grants = λ y g k. k;
      starts = λ y start may k. k;
      replies = λ y j r may k. k;
      calls = λ y s path p o op may k. (
        k.0,
        λ c there. by y.effects.calls c k.1 (record { number = next_call y.setting (seen y); session = s.number; purpose = p; path = path; offset = o; op = op }) may
            (contains_last y.effects.calls (record { number = next_call y.setting (seen y); session = s.number; purpose = p; path = path; offset = o; op = op }) c there),
      );
      rest = λ y k. k;
    } where
      by : (cs : List Call) (c : Call) → ((d : Call) → Contains cs d → SameSession x.past d.session d.purpose) → (new : Call) → SameSession x.past new.session new.purpose → Contains cs c ⊎ (new ≡ c)
          → SameSession x.past c.session c.purpose
      by cs c h new may (inl old) = h c old
      by cs c h new may (inr is) = subst (λ (d : Call). SameSession x.past d.session d.purpose) is may

end_session : (x y : Step) → Staying x y → NewSessions y
end_session x y k = record { each = λ c there. subst (λ t. SameSession t c.session c.purpose) (sym k.0) (k.1 c there) }

begin_session : (x : Step) → NewSessions x → Staying x x
begin_session x h = (refl, h.each)

bare_session : (x : Step) → x.effects.calls ≡ [] → NewSessions x
bare_session x bare = record { each = λ c there. absurd (contains_none c (subst (λ cs. Contains cs c) bare there)) }

-- ---- an answer to a lease's call

led_theirs : (x : Step) (s : Session) (work : Work) (step : LeaseStep) (m : Submitted) (answer : Answer) → Kept x → OneSession x.past → Hears x s m answer → m.call.purpose ≡ Lease work step → IsTheirs x s work
led_theirs x s work step m answer k one hears is j before d its there of =
    let b : HeardBefore x m = heard_before x s m answer k hears in
    one d b.before j before step there b.there of (ap (λ (c : Call). c.purpose) b.same ∙ (is ∙ ap (λ w. Lease w step) its))
    ∙ (ap (λ (c : Call). c.session) b.same ∙ heard_session x s m answer hears)

-- ---- lines

-- The line's job has no call yet.
line_theirs : (x : Step) (text : List ℕ) (s : Session) → x.input ≡ Wake → Kept x → IsTheirs (with_input (Line text) x) s (ForJob (next_job x.setting (seen x)))
line_theirs x text s wake k j before d its there of =
    let number : j ≡ next_job x.setting x.past = some_value j (next_job x.setting x.past) (ap (λ w. work_job w) (sym its) ∙ ap (λ n. Some n) (next_before x wake)) in
    let c = some_of (command_numbered x.setting x.past j) (k.before.whole.facts.jobs.called d j there (ap (λ p. job_of p) of)) in
    absurd (none_some c.0 (sym (ap (λ o. option_and_then command_of o) (ap (λ n. job_numbered x.setting x.past n) number ∙ next_is_new x.setting x.past)) ∙ c.1))

decision_sessions : (x : Step) (text : List ℕ) (c : Command) (d : Decision) → x.input ≡ Wake → Kept x
    → DecisionAllowed (Staying (with_input (Line text) x)) Anything (MayBe (with_input (Line text) x)) AnyStart (with_input (Line text) x) (next_job x.setting (seen x)) c d
decision_sessions x text c d wake k = by d where
  y : Step
  y = with_input (Line text) x

  j : ℕ
  j = next_job x.setting (seen x)

  by : (d : Decision) → DecisionAllowed (Staying (with_input (Line text) x)) Anything (MayBe (with_input (Line text) x)) AnyStart (with_input (Line text) x) (next_job x.setting (seen x)) c d
  by (Replies r) = tt
  by (Joins n a) = λ z its. plain_session y z.number (Joining j FirstRead) (no_lease (Joining j FirstRead) refl)
  by (Leaves s) = (tt, λ z k i there. tt)
  by (ReadsArea s r) = work_session y s (ForJob j) (ReadArea r.name) (line_theirs x text s wake k)
  by (Shares s lver) = grant_plain j lver c
  by (GivesUp s e) =
      let z : Step = add_end (end_of e) y in
      (tt, lease_sessions y z s (spot_of_grant e) (ForJob j) (next_of_release x.setting (seen z) s (spot_of_grant e) e) (line_theirs x text s wake k))
  by (TakesOver s e) = grant_plain j e.lver c
  by (ConvertsTo s r mode) = lease_sessions y y s (spot_of r) (ForJob j) (next_of_conversion x.setting (seen y) s (spot_of r) mode r.name) (line_theirs x text s wake k)
  by (Requests s r) = plain_session y s.number (RequestRead j) (no_lease (RequestRead j) refl)
  by (SetsValue s at v) = plain_session y s.number (ValueWrite j) (no_lease (ValueWrite j) refl)
  by (GetsValue s at) = plain_session y s.number (ValueRead j) (no_lease (ValueRead j) refl)

carried_sessions : (x : Step) (text : List ℕ) (c : Command) (d : Decision) → Kept x → x.input ≡ Wake → x.effects.calls ≡ [] → x.setting.read text ≡ Ok c
    → NewSessions (carry_decision (next_job x.setting (seen x)) c d (with_input (Line text) x))
unfolding carry_decision
carried_sessions x text c d k wake bare says =
    end_session y (carry_decision (next_job x.setting (seen x)) c d y)
    (decision (Staying y) (Staying y) Anything (MayBe y) AnyStart AnyMove (staying y) y (next_job x.setting (seen x)) c d (decision_sessions x text c d wake k)
    (λ n a joins. (
      refl,
      λ e there. begun n a e
          (contains_last x.effects.calls
          (record { number = next_call x.setting (seen y); session = n; purpose = Joining (next_job x.setting (seen x)) FirstRead; path = a.path; offset = delta_offset x.setting.layout a.offset a.id; op = ReadSectors 1 }) e there),
    )) (begin_session y (bare_session y bare)))
  where
    y : Step
    y = with_input (Line text) x

    begun : (n : ℕ) (a : LockspaceArg) (e : Call)
        → Contains x.effects.calls e
        ⊎ (record { number = next_call x.setting (seen y); session = n; purpose = Joining (next_job x.setting (seen x)) FirstRead; path = a.path; offset = delta_offset x.setting.layout a.offset a.id; op = ReadSectors 1 } ≡ e)
        → SameSession x.past e.session e.purpose
    begun n a e (inl old) = (bare_session y bare).each e old
    begun n a e (inr is) =
        subst (λ (d : Call). SameSession x.past d.session d.purpose) is (plain_session y n (Joining (next_job x.setting (seen x)) FirstRead) (no_lease (Joining (next_job x.setting (seen x)) FirstRead) refl))

-- ---- all acts

-- What each act rests on.
pub record KnowsSessions (x : Step) : Type 0 where
  pub known : Kept x
  pub past : OneSession x.past
  pub so_far : NewSessions x

pub sessions_stay_one : Acts KnowsSessions NewSessions
unfolding after_value_read
sessions_stay_one =
    record {
      kills = λ x s has due h. end_session x _ (signalled (Staying x) (Staying x) Anything (MayBe x) AnyStart AnyMove (staying x) tt x Kill s (begin_session x h.so_far));
      times_out = λ x j m wake bare runs waits late_one h.
          end_session x _ (refusal (Staying x) (Staying x) Anything (MayBe x) AnyStart AnyMove (staying x) x j (IoTimeout m.call.number m.reading x.reading) tt (λ z is. tt) (begin_session x h.so_far));
      hears = λ x number answer wake bare expected h. bare_session (with_input (Told number answer) x) bare;
      counts = λ x text wake bare h. bare_session (with_input (Number text) x) bare;
      exits = λ x n wake bare one h.
          let w : Step = with_input (Exit n) x in
          end_session w _ (exited (Staying w) (Staying w) Anything (MayBe w) AnyStart AnyMove (staying w) (leave_holdings n w) n (λ j there. tt)
          (left (Staying w) (Staying w) Anything (MayBe w) AnyStart AnyMove (staying w) w n (begin_session w (bare_session w bare))));
      exits_as_none = λ x n wake bare none h. bare_session (with_input (Exit n) x) bare;
      starts = λ x n ok wake bare expected h. bare_session (with_input (Spawned n ok) x) bare;
      fails_to_start = λ x n input h.
          end_session x _ (said (Staying x) (Staying x) Anything (MayBe x) AnyStart AnyMove (staying x) (end_holdings n x) (job_of_start (seen x) n) SpawnFault (λ j is. tt)
          (ended (Staying x) (Staying x) Anything (MayBe x) AnyStart AnyMove (staying x) x n (begin_session x h.so_far)));
      signals_instead = λ x n o input stood h. end_session x _ ((staying x).signals x o Term (begin_session x h.so_far));
      says_started = λ x n j input is runs h. end_session x _ ((staying x).replies x j (started_reply (seen x) n) tt (begin_session x h.so_far));
      misreads = λ x text column wake bare says h. bare_session (add_reply (next_job x.setting (seen x)) (Misread column) (with_input (Line text) x)) bare;
      answers = λ x text c r wake bare says is h. bare_session (add_reply (next_job x.setting (seen x)) r (with_input (Line text) x)) bare;
      carries = λ x text c d wake bare says is more h. carried_sessions x text c d h.known wake bare says;
      joins_on = λ x s j step m answer hears is runs h.
          let n : DeltaNext = next_in_joining (delta_of_session x.setting s) (generation_of (seen x) s) (calls_of (seen x) s) x.reading m step answer in
          end_session x _ (delta (Staying x) (Staying x) Anything (MayBe x) AnyStart AnyMove (staying x) x s n (delta_sessions x s n) (begin_session x h.so_far));
      ends_joining = λ x s j step m answer hears is stops h. end_session x _ (removal_of_refused (Staying x) (Staying x) Anything (MayBe x) AnyStart AnyMove (staying x) x s tt (begin_session x h.so_far));
      renewed = λ x s m answer hears is h.
          let n : DeltaNext = next_after_renewal (is_some (recovery_of x.setting (seen x) s)) m.reading answer in
          end_session x _ (delta (Staying x) (Staying x) Anything (MayBe x) AnyStart AnyMove (staying x) x s n (delta_sessions x s n) (begin_session x h.so_far));
      freed = λ x s j m answer hears is h.
          let n : DeltaNext = next_after_free j m.call.number answer in
          end_session x _ (delta (Staying x) (Staying x) Anything (MayBe x) AnyStart AnyMove (staying x) x s n (delta_sessions x s n) (begin_session x h.so_far));
      shown = λ x s m bytes hears is joined begins h.
          end_session x _ (stopped (Staying x) (Staying x) Anything (MayBe x) AnyStart AnyMove (staying x) tt x s None (λ z k j there. tt) (begin_session x h.so_far));
      sees = λ x s number bytes spot g has input held h.
          end_session x _ ((staying x).calls x s g.path SeeRequest (request_offset x.setting.layout g.offset) (ReadSectors 1) (plain_session x s.number SeeRequest (no_lease SeeRequest refl)) (begin_session x h.so_far));
      leads_on = λ x s work step m answer aim hears is on aims h.
          let at : Spot = spot_of_call x.setting.layout m in
          let n : LeaseNext = next_of_lease x.setting (seen x) s at aim m step answer in
          end_session x _ (lease (Staying x) (Staying x) Anything (MayBe x) AnyStart AnyMove (staying x) x s at work n
          (lease_sessions x x s at work n (led_theirs x s work step m answer h.known h.past hears is)) (begin_session x h.so_far));
      fails = λ x s m j hears lone runs h. end_session x _ ((staying x).replies x j (IoFault m.call.number) tt (begin_session x h.so_far));
      has_asked = λ x s m j owner hears is runs h. end_session x _ ((staying x).replies x j Done tt (begin_session x h.so_far));
      has_set = λ x s m j hears is runs h. end_session x _ ((staying x).replies x j (set_reply m) tt (begin_session x h.so_far));
      asks = λ x s m j bytes c hears is runs reads_one h.
          end_session x _ (requested (Staying x) (Staying x) Anything (MayBe x) AnyStart AnyMove (staying x) x s j bytes c (request_sessions x s j bytes c) (begin_session x h.so_far));
      tells = λ x s m j bytes hears is runs h. end_session x _ ((staying x).replies x j (value_reply x.setting.layout bytes) tt (begin_session x h.so_far));
      warns = λ x s m bytes g signal hears is held own says h.
          end_session x _ (sent (Staying x) (Staying x) Anything (MayBe x) AnyStart AnyMove (staying x) tt x g.process signal (begin_session x h.so_far));
      joins_in_time = λ x s j has wake is runs h.
          let n : DeltaNext = next_on_wake (delta_of_session x.setting s) x.reading (calls_of (seen x) s) in
          end_session x _ (delta (Staying x) (Staying x) Anything (MayBe x) AnyStart AnyMove (staying x) x s n (delta_sessions x s n) (begin_session x h.so_far));
      renews = λ x s has wake joined h.
          let n : DeltaNext = next_renewal (delta_of_session x.setting s) x.reading (delta_known x.setting (seen x) s) (bits_due x.setting (calls_of (seen x) s) x.reading) in
          end_session x _ (delta (Staying x) (Staying x) Anything (MayBe x) AnyStart AnyMove (staying x) x s n (delta_sessions x s n) (begin_session x h.so_far));
      settles = λ x s spot has wake active whole none h.
          let n : LeaseNext = next_of_settling x.setting (seen x) s spot in
          end_session x _ (lease (Staying x) (Staying x) Anything (MayBe x) AnyStart AnyMove (staying x) x s spot Settling n
          (lease_sessions x x s spot Settling n (λ j before d its. absurd (none_some j (ap (λ w. work_job w) its)))) (begin_session x h.so_far));
      parts = λ x s p1 p2 p3 p4 p5 h. end_session x _ (removal (Staying x) (Staying x) Anything (MayBe x) AnyStart AnyMove (staying x) x s.lockspace tt (begin_session x h.so_far));
      frees = λ x s p1 p2 p3 p4 p5 h.
          let n : DeltaNext = next_free (delta_of_session x.setting s) x.reading (delta_known x.setting (seen x) s) in
          end_session x _ (delta (Staying x) (Staying x) Anything (MayBe x) AnyStart AnyMove (staying x) x s n (delta_sessions x s n) (begin_session x h.so_far));
    }

pub sessions_begin_one : (st : Setting) (past : Trace) (now : ℕ) → NewSessions (begin_recoveries (begin_step st past now))
sessions_begin_one st past now = subst (λ y. NewSessions y) (sym (begun_says st past now).is) (record { each = λ c there. absurd (contains_none c there) })

-- ---- an entry's end

-- Two calls without an answer of one job are one.
pub one_session : (st : Setting) (past : Trace) (e : Entry) → JobFacts st (e ∷ past) None → OneSession past → ((c : Call) → Contains e.effects.calls c → SameSession past c.session c.purpose) → OneSession (e ∷ past)
one_session st past e jobs one new m d j step before there also is of = by (which m there) (which d also) where
  -- a call from before, with its own
  Was : Submitted → Type 0
  Was m = (b : Submitted) × Contains (submitted past) b × (b.call ≡ m.call)

  marked : (m : Submitted) (i : Input) → Contains (mark past e i (submitted past)) m → (b : Submitted) × Contains (submitted past) b × (b.call ≡ m.call)
  marked m (Told n a) inside = let v = in_map (answered_in past e n a) (submitted past) m inside in (v.0, v.1, sym (same_answered past e n a v.0).call ∙ ap (λ (z : Submitted). z.call) v.2)
  marked m (Line text) inside = (m, inside, refl)
  marked m (Number text) inside = (m, inside, refl)
  marked m (Exit p) inside = (m, inside, refl)
  marked m (Spawned p ok) inside = (m, inside, refl)
  marked m Wake inside = (m, inside, refl)

  which : (m : Submitted) → Contains (submitted (e ∷ past)) m → ((b : Submitted) × Contains (submitted past) b × (b.call ≡ m.call)) ⊎ IsNewCall (length past) e.reading e.effects.calls m
  which m inside = elim (old_or_new (length past) e.reading e.effects.calls (mark past e e.input (submitted past)) m inside) [ inl old ↦ inl (marked m e.input old) | inr n ↦ inr n ]

  by : ((b : Submitted) × Contains (submitted past) b × (b.call ≡ m.call)) ⊎ IsNewCall (length past) e.reading e.effects.calls m
      → ((b : Submitted) × Contains (submitted past) b × (b.call ≡ d.call)) ⊎ IsNewCall (length past) e.reading e.effects.calls d → m.call.session ≡ d.call.session
  by (inl a) (inl b) =
      ap (λ (c : Call). c.session) (sym a.2)
      ∙ (one a.0 b.0 j step before a.1 b.1 (ap (λ (c : Call). c.purpose) a.2 ∙ is) (ap (λ (c : Call). c.purpose) b.2 ∙ of) ∙ ap (λ (c : Call). c.session) b.2)
  by (inl a) (inr n) =
      ap (λ (c : Call). c.session) (sym a.2) ∙ new d.call (got_inside e.effects.calls n.index d.call n.call) j before step a.0 of a.1 (ap (λ (c : Call). c.purpose) a.2 ∙ is)
  by (inr n) (inl b) =
      sym (ap (λ (c : Call). c.session) (sym b.2) ∙ new m.call (got_inside e.effects.calls n.index m.call n.call) j step before b.0 is b.1 (ap (λ (c : Call). c.purpose) b.2 ∙ of))
  by (inr n) (inr k) = ap (λ (z : Submitted). z.call.session) (jobs.one m d j there also (inl n.unmet) (inl k.unmet) (ap (λ p. job_of p) is) (ap (λ p. job_of p) of))
