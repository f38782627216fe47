-- A call of an entry that works on a lease for a job is of one that had no reply before the entry.
use Rattle.sl_due_facts.proofs.Acts.ActsTogether.{both, from_more}
use Rattle.sl_due_facts.proofs.Acts.AddedAtEnd.{contains_last}
use Rattle.sl_due_facts.proofs.Acts.StepsKeep.{Fixed, due_is_of, step_keeps}
use Rattle.sl_due_facts.proofs.Acts.TracesKeep.{due_is_seen}
use Rattle.sl_due_facts.specs.Acts.Acts.{Acts, next_of_conversion, next_of_release, next_of_settling}
use Rattle.sl_due_facts.specs.Acts.TraceSoFar.{entry_of}
use Rattle.sl_area.specs.AreaLayout.{delta_offset, request_offset}
use Rattle.sl_due.specs.Due.{IsHostTrace, due_step}
use Rattle.sl_due.specs.DueAnswers.{set_reply}
use Rattle.sl_due.specs.DueCommands.{carry_decision}
use Rattle.sl_due.specs.DueRecovery.{begin_recoveries}
use Rattle.sl_due.specs.DueInputs.{end_holdings, leave_holdings, started_reply}
use Rattle.sl_due.specs.CarriedLease.{goes_on, next_of_lease}
use Rattle.sl_due.specs.DueRequests.{after_value_read, bits_due, owner_read, value_reply}
use Rattle.sl_due.specs.Steps.{Step, add_end, add_reply, begin_step, seen, with_input}
use Rattle.sl_due.specs.declared.decision.Decision.TheVariants.{ConvertsTo, GetsValue, GivesUp, Joins, Leaves, ReadsArea, Replies, Requests, SetsValue, Shares, TakesOver}
use Rattle.sl_due.specs.declared.decision.Decision.{Decision}
use Rattle.sl_due_facts.proofs.Jobs.EffectsAreAllowed.{Allows, DecisionAllowed, DeltaAllowed, LeaseAllowed, ReadAllowed, RequestAllowed, decision, delta, ended, exited, lease, left, refusal, removal, removal_of_refused, requested, said, sent, signalled, stopped}
use Rattle.sl_due_facts.proofs.Jobs.JobsAreNumbered.{next_is_new}
use Rattle.sl_due_facts.proofs.Jobs.NearlyPlainActs.{AnyMove, AnyStart, Anything, grant_plain}
use Rattle.sl_due_law.proofs.Recovery.StopsBegin.{begun_says}
use Rattle.sl_due_law.proofs.LawfulTraces.AllIsKept.{all_begins, all_is_kept}
use Rattle.sl_due_law.proofs.LawfulTraces.CallsSuit.{no_lease, work_of}
use Rattle.sl_due_law.proofs.LawfulTraces.TracesHold.{traces_hold}
use Rattle.sl_due_facts.specs.Facts.AllFacts.{Whole}
use Rattle.sl_due_law.specs.LawfulTraces.CarriedFacts.{Kept}
use Rattle.sl_run.specs.Lawful.{IsSetting}
use Rattle.sl_trace.specs.Jobs.{job_of_start}
use Rattle.sl_trace.specs.Leases.{spot_of, spot_of_call}
use Rattle.sl_trace.specs.declared.lease.LeaseNext.TheVariants.{AnswerJob, BecomeExclusive, BecomeShared, GrantJob, Nothing as No_lease, ReadFor, WriteBlock, WriteLeader}
use Rattle.sl_trace.specs.declared.lease.LeaseNext.{LeaseNext}
use Rattle.sl_words.proofs.Lists.{contains_none, head_is}
use Rattle.sl_words.proofs.Options.{some_of}
use Rattle.sl_trace.specs.DeltaDecisions.{delta_known, delta_of_session, next_after_free, next_after_renewal, next_free, next_in_joining, next_on_wake, next_renewal}
use Rattle.sl_trace.specs.Sessions.{calls_of, generation_of, recovery_of}
use Rattle.sl_trace.specs.declared.delta.DeltaNext.TheVariants.{Disconnect, EndLeaving, Join, MoveConnection, Nothing, ReadOwn, RefuseJoin, RegisterAndRead, WriteClaim, WriteFirst, WriteFree, WriteRenewal}
use Rattle.sl_trace.specs.declared.delta.DeltaNext.{DeltaNext}
use Rattle.sl_trace.specs.declared.session.Session.{Session}
use Rattle.sl_trace.specs.Traces.{Replied, Setting, Trace, end_of, is_running, job_numbered, job_of, next_call, next_job, reply_in, reply_to, spot_of_grant}
use Rattle.sl_trace.specs.declared.command.Command.TheVariants.{Acquire, AddLockspace, Convert, GetLvb, HostStatus, InqLockspace, Release, ReleaseOrphan, RemLockspace, Request, RunProgram, SetKillpath, SetLvb, Status, TakeOver}
use Rattle.sl_trace.specs.declared.command.Command.{Command}
use Rattle.sl_trace.specs.declared.command.LockspaceArg.{LockspaceArg}
use Rattle.sl_trace.specs.declared.effects.Call.{Call}
use Rattle.sl_trace.specs.declared.effects.Entry.{Entry}
use Rattle.sl_trace.specs.declared.effects.JoinStep.TheVariants.{ClaimWrite, FirstRead, FirstRenewal}
use Rattle.sl_trace.specs.declared.effects.LeaseRead.TheVariants.{OfArea, OfBlock, OfFree, OfPhase1, OfPhase2}
use Rattle.sl_trace.specs.declared.effects.LeaseStep.TheVariants.{ClearMode, FreeLeader, Phase1Read, Phase1Write, Phase2Read, Phase2Write, ReadAgain, ReadArea, ReadBeforeBlock, ReadBeforeFree, SetMode, TakeLeader}
use Rattle.sl_trace.specs.declared.effects.LeaseStep.{LeaseStep}
use Rattle.sl_trace.specs.declared.effects.Op.TheVariants.{ReadSectors}
use Rattle.sl_trace.specs.declared.effects.Op.{Op}
use Rattle.sl_trace.specs.declared.effects.Purpose.TheVariants.{Joining, Lease, Leaving, Renewal, RequestRead, RequestWrite, SeeRequest, Survey, ValueRead, ValueWrite}
use Rattle.sl_trace.specs.declared.effects.Purpose.{Purpose}
use Rattle.sl_trace.specs.declared.effects.Signal.TheVariants.{Kill, Term}
use Rattle.sl_trace.specs.declared.effects.Spot.{Spot}
use Rattle.sl_trace.specs.declared.effects.Work.TheVariants.{ForJob, Settling}
use Rattle.sl_trace.specs.declared.effects.Work.{Work}
use Rattle.sl_trace.specs.declared.input.Input.TheVariants.{Answer as Told, Exit, Line, Number, Spawned}
use Rattle.sl_trace.specs.declared.reply.Reply.TheVariants.{BadCommand as Misread, Done, IoFault, IoTimeout, SpawnFault}
use Rattle.sl_words.proofs.CaseLaws.{false_is_true, none_some, some_value}
use Rattle.std.proofs.Common.{ap, inl, inr, refl, subst, sym, ◌∙◌}
use Rattle.std.specs.Prelude.{Bool, Contains, List, None, Option, Some, [], false, is_none, is_some, true, ℕ, ◌∷◌, ◌≡◌, ◌⊎◌}

-- ---- what a call may be for

-- Its job ran after these entries.
abbrev pub RunsIn : Trace → Purpose → Type 0
RunsIn past p = (j : ℕ) (step : LeaseStep) → p ≡ Lease (ForJob j) step → is_running past j ≡ true

abbrev MayRun : Trace → Session → List ℕ → Purpose → ℕ → Op → Type 0
MayRun past s path p o op = RunsIn past p

abbrev NewRuns : Step → Type 0
NewRuns x = (c : Call) → Contains x.effects.calls c → RunsIn x.past c.purpose

other_runs : (past : Trace) (p : Purpose) → ((j : ℕ) (step : LeaseStep) → p ≡ Lease (ForJob j) step → ⊥) → RunsIn past p
other_runs past p none j step is = absurd (none j step is)

settling_runs : (past : Trace) (step : LeaseStep) → RunsIn past (Lease Settling step)
settling_runs past step j b is = absurd (none_some j (ap (λ p. job_of p) is))

work_runs : (past : Trace) (work : Work) (step : LeaseStep) → ((j : ℕ) → work ≡ ForJob j → is_running past j ≡ true) → RunsIn past (Lease work step)
work_runs past work step h j b is = h j (ap (λ p. work_of work p) is)

-- One that runs with an entry more ran before it.
pub ran_before : (past : Trace) (e : Entry) (n : ℕ) → is_running (e ∷ past) n ≡ true → is_running past n ≡ true
ran_before past e n runs = by (reply_to past n) runs where
  by : (o : Option Replied) → is_none (elim o as (λ w. Option Replied) [ Some q ↦ Some q | None ↦ reply_in n past e ]) ≡ true → is_none o ≡ true
  by None g = refl
  by (Some q) g = absurd (false_is_true g)

-- ---- what is carried out

delta_runs : (past : Trace) (x : Step) (s : Session) (n : DeltaNext) → DeltaAllowed Anything (MayRun past) AnyMove x s n
delta_runs past x s Nothing = tt
delta_runs past x s (RefuseJoin r) = λ j its. (tt, λ z is. tt)
delta_runs past x s (ReadOwn step) = λ j its. other_runs past (Joining j step) (no_lease (Joining j step) refl)
delta_runs past x s (RegisterAndRead step) = λ j its. (tt, other_runs past (Joining j step) (no_lease (Joining j step) refl))
delta_runs past x s (WriteClaim d) = λ j its. other_runs past (Joining j ClaimWrite) (no_lease (Joining j ClaimWrite) refl)
delta_runs past x s Disconnect = tt
delta_runs past x s (WriteFirst d) = λ j its. other_runs past (Joining j FirstRenewal) (no_lease (Joining j FirstRenewal) refl)
delta_runs past x s (Join generation renewed) = λ j its. (tt, tt, other_runs past Survey (no_lease Survey refl))
delta_runs past x s (MoveConnection renewed) = (tt, other_runs past Survey (no_lease Survey refl))
delta_runs past x s (WriteRenewal d) = other_runs past Renewal (no_lease Renewal refl)
delta_runs past x s (WriteFree j d) = other_runs past (Leaving j) (no_lease (Leaving j) refl)
delta_runs past x s (EndLeaving j r) = (tt, tt)

-- What a lease decided for work that goes on.
abbrev WorkRuns : Trace → Work → Type 0
WorkRuns past work = (j : ℕ) → work ≡ ForJob j → is_running past j ≡ true

reads_run : (past : Trace) (y : Step) (s : Session) (at : Spot) (work : Work) (step : LeaseStep) → WorkRuns past work → ReadAllowed (MayRun past) y s at work step
reads_run past y s at work (ReadArea name) h = work_runs past work (ReadArea name) h
reads_run past y s at work ReadBeforeFree h = work_runs past work ReadBeforeFree h
reads_run past y s at work ReadBeforeBlock h = work_runs past work ReadBeforeBlock h
reads_run past y s at work (ReadAgain (OfArea name)) h = work_runs past work (ReadAgain (OfArea name)) h
reads_run past y s at work (ReadAgain OfFree) h = work_runs past work (ReadAgain OfFree) h
reads_run past y s at work (ReadAgain OfBlock) h = work_runs past work (ReadAgain OfBlock) h
reads_run past y s at work (ReadAgain OfPhase1) h = work_runs past work (ReadAgain OfPhase1) h
reads_run past y s at work (ReadAgain OfPhase2) h = work_runs past work (ReadAgain OfPhase2) h
reads_run past y s at work Phase1Write h = work_runs past work Phase1Write h
reads_run past y s at work Phase1Read h = work_runs past work Phase1Read h
reads_run past y s at work Phase2Write h = work_runs past work Phase2Write h
reads_run past y s at work Phase2Read h = work_runs past work Phase2Read h
reads_run past y s at work TakeLeader h = work_runs past work TakeLeader h
reads_run past y s at work SetMode h = work_runs past work SetMode h
reads_run past y s at work FreeLeader h = work_runs past work FreeLeader h
reads_run past y s at work ClearMode h = work_runs past work ClearMode h

lease_runs : (past : Trace) (y : Step) (s : Session) (at : Spot) (work : Work) (n : LeaseNext) → WorkRuns past work → LeaseAllowed Anything (MayRun past) AnyStart y s at work n
lease_runs past y s at work No_lease h = tt
lease_runs past y s at work (ReadFor step) h = reads_run past y s at work step h
lease_runs past y s at work (WriteBlock step b) h = work_runs past work step h
lease_runs past y s at work (WriteLeader step l) h = work_runs past work step h
lease_runs past y s at work (AnswerJob r) h = λ j is. tt
lease_runs past y s at work (GrantJob mode lver) h = λ j c is reads. grant_plain j lver c
lease_runs past y s at work (BecomeShared lver l) h = ((λ j is. tt), settling_runs past FreeLeader)
lease_runs past y s at work (BecomeExclusive lver b) h = ((λ j is. tt), λ g same. settling_runs past ClearMode)

request_runs : (past : Trace) (x : Step) (s : Session) (j : ℕ) (bytes : List ℕ) (c : Command) → RequestAllowed Anything (MayRun past) x s j bytes c
request_runs past x s j bytes (Request r asked force) = ((λ why is. tt), other_runs past (RequestWrite j (owner_read x.setting.layout bytes)) (no_lease (RequestWrite j (owner_read x.setting.layout bytes)) refl))
request_runs past x s j bytes (AddLockspace a) = tt
request_runs past x s j bytes (RemLockspace a) = tt
request_runs past x s j bytes (InqLockspace a) = tt
request_runs past x s j bytes (HostStatus a) = tt
request_runs past x s j bytes (Acquire r shared p persistent) = tt
request_runs past x s j bytes (TakeOver r shared p persistent) = tt
request_runs past x s j bytes (Release r p) = tt
request_runs past x s j bytes (ReleaseOrphan r) = tt
request_runs past x s j bytes (Convert r shared p) = tt
request_runs past x s j bytes (RunProgram r shared path) = tt
request_runs past x s j bytes (GetLvb r p) = tt
request_runs past x s j bytes (SetLvb r p other) = tt
request_runs past x s j bytes (SetKillpath p path) = tt
request_runs past x s j bytes Status = tt

-- ---- effects

record Running (past : Trace) (y : Step) : Type 0 where
  same : y.past ≡ past
  each : (c : Call) → Contains y.effects.calls c → RunsIn past c.purpose

running : (past : Trace) → Allows (Running past) (Running past) Anything (MayRun past) AnyStart AnyMove
running past =
    record {
      ends = λ y e k. record { same = k.same; each = k.each };
      signals = λ y p g k. record { same = k.same; each = k.each };
      moves = λ y m may k. record { same = k.same; each = k.each };
      grants = λ y g k. record { same = k.same; each = k.each };
      starts = λ y start may k. record { same = k.same; each = k.each };
      replies = λ y j r may k. record { same = k.same; each = k.each };
      calls = λ y s path p o op may k. record {
        same = k.same;
        each = λ c there. by y.effects.calls c k.each (record { number = next_call y.setting (seen y); session = s.number; purpose = p; path = path; offset = o; op = op }) may
            (contains_last y.effects.calls (record { number = next_call y.setting (seen y); session = s.number; purpose = p; path = path; offset = o; op = op }) c there);
      };
      rest = λ y k. k;
    } where
      by : (cs : List Call) (c : Call) → ((d : Call) → Contains cs d → RunsIn past d.purpose) → (new : Call) → RunsIn past new.purpose → Contains cs c ⊎ (new ≡ c) → RunsIn past c.purpose
      by cs c h new may (inl old) = h c old
      by cs c h new may (inr is) = subst (λ (d : Call). RunsIn past d.purpose) is may

end_running : (past : Trace) (y : Step) → Running past y → NewRuns y
end_running past y k = λ c there. subst (λ t. RunsIn t c.purpose) (sym k.same) (k.each c there)

begin_running : (x : Step) → NewRuns x → Running x.past x
begin_running x h = record { same = refl; each = h }

bare_runs : (x : Step) → x.effects.calls ≡ [] → NewRuns x
bare_runs x bare c there = absurd (contains_none c (subst (λ cs. Contains cs c) bare there))

-- ---- lines

-- The line's own job has no reply before it.
new_runs : (x : Step) → Whole x → is_running x.past (next_job x.setting (seen x)) ≡ true
new_runs x w = ran_before x.past (entry_of x) (next_job x.setting (seen x)) (told (is_running (seen x) (next_job x.setting (seen x))) refl) where
  told : (b : Bool) → is_running (seen x) (next_job x.setting (seen x)) ≡ b → is_running (seen x) (next_job x.setting (seen x)) ≡ true
  told true is = is
  told false is =
      let j = some_of (job_numbered x.setting (seen x) (next_job x.setting (seen x))) (w.facts.jobs.replied (next_job x.setting (seen x)) is) in absurd (none_some j.0 (sym (next_is_new x.setting (seen x)) ∙ j.1))

decision_runs : (past : Trace) (K : Step → Type 0) (y : Step) (j : ℕ) (c : Command) (d : Decision) → is_running past j ≡ true → DecisionAllowed K Anything (MayRun past) AnyStart y j c d
decision_runs past K y j c (Replies r) runs = tt
decision_runs past K y j c (Joins n a) runs = λ z its. other_runs past (Joining j FirstRead) (no_lease (Joining j FirstRead) refl)
decision_runs past K y j c (Leaves s) runs = (tt, λ z k i there. tt)
decision_runs past K y j c (ReadsArea s r) runs = work_runs past (ForJob j) (ReadArea r.name) (mine past j runs)
  where
    mine : (past : Trace) (j : ℕ) → is_running past j ≡ true → WorkRuns past (ForJob j)
    mine past j runs i is = subst (λ n. is_running past n ≡ true) (some_value j i (ap (λ w. job_of (Lease w SetMode)) is)) runs
decision_runs past K y j c (Shares s lver) runs = grant_plain j lver c
decision_runs past K y j c (GivesUp s g) runs =
    (tt, lease_runs past (add_end (end_of g) y) s (spot_of_grant g) (ForJob j) (next_of_release y.setting (seen (add_end (end_of g) y)) s (spot_of_grant g) g) (mine past j runs))
  where
    mine : (past : Trace) (j : ℕ) → is_running past j ≡ true → WorkRuns past (ForJob j)
    mine past j runs i is = subst (λ n. is_running past n ≡ true) (some_value j i (ap (λ w. job_of (Lease w SetMode)) is)) runs
decision_runs past K y j c (TakesOver s g) runs = grant_plain j g.lver c
decision_runs past K y j c (ConvertsTo s r mode) runs =
    lease_runs past y s (spot_of r) (ForJob j) (next_of_conversion y.setting (seen y) s (spot_of r) mode r.name) (mine past j runs)
  where
    mine : (past : Trace) (j : ℕ) → is_running past j ≡ true → WorkRuns past (ForJob j)
    mine past j runs i is = subst (λ n. is_running past n ≡ true) (some_value j i (ap (λ w. job_of (Lease w SetMode)) is)) runs
decision_runs past K y j c (Requests s r) runs = other_runs past (RequestRead j) (no_lease (RequestRead j) refl)
decision_runs past K y j c (SetsValue s at v) runs = other_runs past (ValueWrite j) (no_lease (ValueWrite j) refl)
decision_runs past K y j c (GetsValue s at) runs = other_runs past (ValueRead j) (no_lease (ValueRead j) refl)

carried_runs : (x : Step) (text : List ℕ) (c : Command) (d : Decision) → Whole x → x.effects.calls ≡ [] → NewRuns (carry_decision (next_job x.setting (seen x)) c d (with_input (Line text) x))
unfolding carry_decision
carried_runs x text c d w bare =
    end_running x.past (carry_decision j c d y) (decision (Running x.past) (Running x.past) Anything (MayRun x.past) AnyStart AnyMove (running x.past) y j c d
    (decision_runs x.past (Running x.past) y j c d (new_runs x w)) (λ n a joins. record { same = refl; each = λ e there. begun n a e (contains_last x.effects.calls (look n a) e there) }) (begin_running y (bare_runs y bare)))
  where
    y : Step
    y = with_input (Line text) x

    j : ℕ
    j = next_job x.setting (seen x)

    look : ℕ → LockspaceArg → Call
    look n a = record { number = next_call x.setting (seen y); session = n; purpose = Joining j FirstRead; path = a.path; offset = delta_offset x.setting.layout a.offset a.id; op = ReadSectors 1 }

    begun : (n : ℕ) (a : LockspaceArg) (e : Call) → Contains x.effects.calls e ⊎ (look n a ≡ e) → RunsIn x.past e.purpose
    begun n a e (inl old) = bare_runs y bare e old
    begun n a e (inr is) = subst (λ (d : Call). RunsIn x.past d.purpose) is (other_runs x.past (Joining j FirstRead) (no_lease (Joining j FirstRead) refl))

-- ---- all acts

lead_runs : (x : Step) (s : Session) (work : Work) → goes_on x.setting (seen x) s work ≡ true → WorkRuns x.past work
lead_runs x s work on j is = ran_before x.past (entry_of x) j (subst (λ w. goes_on x.setting (seen x) s w ≡ true) is on)

calls_run : Acts (λ x. Whole x × NewRuns x) NewRuns
unfolding after_value_read
calls_run =
    record {
      kills = λ x s has due h. end_running x.past _ (signalled (Running x.past) (Running x.past) Anything (MayRun x.past) AnyStart AnyMove (running x.past) tt x Kill s (begin_running x h.1));
      times_out = λ x j m wake bare runs waits late_one h.
          end_running x.past _ (refusal (Running x.past) (Running x.past) Anything (MayRun x.past) AnyStart AnyMove (running x.past) x j (IoTimeout m.call.number m.reading x.reading) tt (λ z is. tt) (begin_running x h.1));
      hears = λ x number answer wake bare expected h. bare_runs (with_input (Told number answer) x) bare;
      counts = λ x text wake bare h. bare_runs (with_input (Number text) x) bare;
      exits = λ x n wake bare one h.
          let w : Step = with_input (Exit n) x in
          end_running x.past _ (exited (Running x.past) (Running x.past) Anything (MayRun x.past) AnyStart AnyMove (running x.past) (leave_holdings n w) n (λ j there. tt)
          (left (Running x.past) (Running x.past) Anything (MayRun x.past) AnyStart AnyMove (running x.past) w n (begin_running w (bare_runs w bare))));
      exits_as_none = λ x n wake bare none h. bare_runs (with_input (Exit n) x) bare;
      starts = λ x n ok wake bare expected h. bare_runs (with_input (Spawned n ok) x) bare;
      fails_to_start = λ x n input h.
          end_running x.past _ (said (Running x.past) (Running x.past) Anything (MayRun x.past) AnyStart AnyMove (running x.past) (end_holdings n x) (job_of_start (seen x) n) SpawnFault (λ j is. tt)
          (ended (Running x.past) (Running x.past) Anything (MayRun x.past) AnyStart AnyMove (running x.past) x n (begin_running x h.1)));
      signals_instead = λ x n o input stood h. end_running x.past _ ((running x.past).signals x o Term (begin_running x h.1));
      says_started = λ x n j input is runs h. end_running x.past _ ((running x.past).replies x j (started_reply (seen x) n) tt (begin_running x h.1));
      misreads = λ x text column wake bare says h. bare_runs (add_reply (next_job x.setting (seen x)) (Misread column) (with_input (Line text) x)) bare;
      answers = λ x text c r wake bare says is h. bare_runs (add_reply (next_job x.setting (seen x)) r (with_input (Line text) x)) bare;
      carries = λ x text c d wake bare says is more h. carried_runs x text c d h.0 bare;
      joins_on = λ x s j step m answer hears is runs h.
          let n : DeltaNext = next_in_joining (delta_of_session x.setting s) (generation_of (seen x) s) (calls_of (seen x) s) x.reading m step answer in
          end_running x.past _ (delta (Running x.past) (Running x.past) Anything (MayRun x.past) AnyStart AnyMove (running x.past) x s n (delta_runs x.past x s n) (begin_running x h.1));
      ends_joining = λ x s j step m answer hears is stops h. end_running x.past _ (removal_of_refused (Running x.past) (Running x.past) Anything (MayRun x.past) AnyStart AnyMove (running x.past) x s tt (begin_running x h.1));
      renewed = λ x s m answer hears is h.
          let n : DeltaNext = next_after_renewal (is_some (recovery_of x.setting (seen x) s)) m.reading answer in
          end_running x.past _ (delta (Running x.past) (Running x.past) Anything (MayRun x.past) AnyStart AnyMove (running x.past) x s n (delta_runs x.past x s n) (begin_running x h.1));
      freed = λ x s j m answer hears is h.
          let n : DeltaNext = next_after_free j m.call.number answer in
          end_running x.past _ (delta (Running x.past) (Running x.past) Anything (MayRun x.past) AnyStart AnyMove (running x.past) x s n (delta_runs x.past x s n) (begin_running x h.1));
      shown = λ x s m bytes hears is joined begins h.
          end_running x.past _ (stopped (Running x.past) (Running x.past) Anything (MayRun x.past) AnyStart AnyMove (running x.past) tt x s None (λ z k j there. tt) (begin_running x h.1));
      sees = λ x s number bytes spot g has input held h.
          end_running x.past _ ((running x.past).calls x s g.path SeeRequest (request_offset x.setting.layout g.offset) (ReadSectors 1) (other_runs x.past SeeRequest (no_lease SeeRequest refl)) (begin_running x h.1));
      leads_on = λ x s work step m answer aim hears is on aims h.
          let at : Spot = spot_of_call x.setting.layout m in
          let n : LeaseNext = next_of_lease x.setting (seen x) s at aim m step answer in
          end_running x.past _ (lease (Running x.past) (Running x.past) Anything (MayRun x.past) AnyStart AnyMove (running x.past) x s at work n
          (lease_runs x.past x s at work n (lead_runs x s work on)) (begin_running x h.1));
      fails = λ x s m j hears lone runs h. end_running x.past _ ((running x.past).replies x j (IoFault m.call.number) tt (begin_running x h.1));
      has_asked = λ x s m j owner hears is runs h. end_running x.past _ ((running x.past).replies x j Done tt (begin_running x h.1));
      has_set = λ x s m j hears is runs h. end_running x.past _ ((running x.past).replies x j (set_reply m) tt (begin_running x h.1));
      asks = λ x s m j bytes c hears is runs reads_one h.
          end_running x.past _ (requested (Running x.past) (Running x.past) Anything (MayRun x.past) AnyStart AnyMove (running x.past) x s j bytes c (request_runs x.past x s j bytes c) (begin_running x h.1));
      tells = λ x s m j bytes hears is runs h. end_running x.past _ ((running x.past).replies x j (value_reply x.setting.layout bytes) tt (begin_running x h.1));
      warns = λ x s m bytes g signal hears is held own says h.
          end_running x.past _ (sent (Running x.past) (Running x.past) Anything (MayRun x.past) AnyStart AnyMove (running x.past) tt x g.process signal (begin_running x h.1));
      joins_in_time = λ x s j has wake is runs h.
          let n : DeltaNext = next_on_wake (delta_of_session x.setting s) x.reading (calls_of (seen x) s) in
          end_running x.past _ (delta (Running x.past) (Running x.past) Anything (MayRun x.past) AnyStart AnyMove (running x.past) x s n (delta_runs x.past x s n) (begin_running x h.1));
      renews = λ x s has wake joined h.
          let n : DeltaNext = next_renewal (delta_of_session x.setting s) x.reading (delta_known x.setting (seen x) s) (bits_due x.setting (calls_of (seen x) s) x.reading) in
          end_running x.past _ (delta (Running x.past) (Running x.past) Anything (MayRun x.past) AnyStart AnyMove (running x.past) x s n (delta_runs x.past x s n) (begin_running x h.1));
      settles = λ x s spot has wake active whole none h.
          let n : LeaseNext = next_of_settling x.setting (seen x) s spot in
          end_running x.past _ (lease (Running x.past) (Running x.past) Anything (MayRun x.past) AnyStart AnyMove (running x.past) x s spot Settling n
          (lease_runs x.past x s spot Settling n (λ j its. absurd (none_some j (ap (λ w. job_of (Lease w SetMode)) its)))) (begin_running x h.1));
      parts = λ x s p1 p2 p3 p4 p5 h. end_running x.past _ (removal (Running x.past) (Running x.past) Anything (MayRun x.past) AnyStart AnyMove (running x.past) x s.lockspace tt (begin_running x h.1));
      frees = λ x s p1 p2 p3 p4 p5 h.
          let n : DeltaNext = next_free (delta_of_session x.setting s) x.reading (delta_known x.setting (seen x) s) in
          end_running x.past _ (delta (Running x.past) (Running x.past) Anything (MayRun x.past) AnyStart AnyMove (running x.past) x s n (delta_runs x.past x s n) (begin_running x h.1));
    }

-- ---- an entry

abbrev Going : Step → Type 0
Going x = Kept x × NewRuns x

going : Acts Going Going
going = both Going Kept NewRuns (from_more Kept Going Kept (λ x h. h.0) all_is_kept) (from_more (λ x. Whole x × NewRuns x) Going NewRuns (λ x h. (h.0.known.0, h.1)) calls_run)

pub new_calls_run : (st : Setting) (past : Trace) (e : Entry) → IsSetting st → IsHostTrace st (e ∷ past) → (c : Call) → Contains e.effects.calls c → RunsIn past c.purpose
new_calls_run st past e setting host c there =
    subst (λ t. RunsIn t c.purpose) fixed.before (done.1 c (subst (λ (f : Entry). Contains f.effects.calls c) (sym entry) there)) where
      fixed : Fixed st past e.reading (due_step st past e.reading e.input)
      fixed = due_is_of st past e.reading e.input

      entry : entry_of (due_step st past e.reading e.input) ≡ e
      entry = head_is (entry_of (due_step st past e.reading e.input)) e (due_step st past e.reading e.input).past past (due_is_seen st past e host.1.0)

      first : Going (begin_recoveries (begin_step st past e.reading))
      first = (
        all_begins st past e host.0.0 (traces_hold st past setting (host.0.1, host.1.1)),
        subst (λ y. NewRuns y) (sym (begun_says st past e.reading).is) (λ d inside. absurd (contains_none d inside)),
      )

      done : Going (due_step st past e.reading e.input)
      done = step_keeps Going going st past e.reading e.input host.0.0.expected first
