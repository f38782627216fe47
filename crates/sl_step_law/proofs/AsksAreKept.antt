-- What a call asks for which no law says it: each act keeps that it does what its purpose says.
use Rattle.sl_due_facts.proofs.Acts.AddedAtEnd.{contains_last}
use Rattle.sl_due_facts.proofs.Acts.LoopsKeep.{for_each_keeps, when_keeps}
use Rattle.sl_due_facts.specs.Acts.Acts.{Acts, next_of_conversion, next_of_release, next_of_settling}
use Rattle.sl_area.specs.AreaLayout.{delta_offset, request_offset}
use Rattle.sl_due.specs.DueAnswers.{set_reply}
use Rattle.sl_due.specs.DueCommands.{answer_line, carry_decision}
use Rattle.sl_due.specs.DueRecovery.{send}
use Rattle.sl_due.specs.DueInputs.{end_holdings, leave_holdings, started_reply}
use Rattle.sl_due.specs.CarriedLease.{next_of_lease}
use Rattle.sl_due.specs.DueRequests.{after_value_read, bits_due, value_reply}
use Rattle.sl_due.specs.Steps.{Step, add_call_of, add_end, add_move, add_signal, seen, with_input}
use Rattle.sl_due.specs.declared.decision.Decision.{Decision}
use Rattle.sl_due.specs.declared.decision.Decision.TheVariants.{ConvertsTo, GetsValue, GivesUp, Joins, Leaves, ReadsArea, Replies, Requests, SetsValue, Shares, TakesOver}
use Rattle.sl_due_facts.proofs.Jobs.EffectsAreAllowed.{Allows, DecisionAllowed, DeltaAllowed, LeaseAllowed, ReadAllowed, RequestAllowed, decision, delta, ended, exited, lease, left, refusal, removal_of_refused, requested, said, sent, stopped}
use Rattle.sl_due_facts.proofs.Jobs.NearlyPlainActs.{AnyMove, AnyStart, Anything, grant_plain}
use Rattle.sl_due_facts.proofs.Jobs.RepliesComeAfter.{on_bool, on_option}
use Rattle.sl_trace.specs.Jobs.{job_of_start}
use Rattle.sl_trace.specs.Leases.{spot_of, spot_of_call}
use Rattle.sl_trace.specs.declared.lease.LeaseNext.{LeaseNext}
use Rattle.sl_trace.specs.declared.lease.LeaseNext.TheVariants.{AnswerJob, BecomeExclusive, BecomeShared, GrantJob, Nothing as No_lease, ReadFor, WriteBlock, WriteLeader}
use Rattle.sl_words.proofs.Lists.{contains_none}
use Rattle.sl_sector.specs.Bitmaps.{no_bits}
use Rattle.sl_sector.specs.declared.sector.DeltaState.TheVariants.{Free, Live}
use Rattle.sl_trace.specs.DeltaDecisions.{DeltaLease, delta_known, delta_of_session, delta_record, is_renewal_due, next_after_free, next_after_renewal, next_free, next_in_joining, next_on_wake, next_renewal}
use Rattle.sl_trace.specs.Sessions.{calls_of, generation_of, holders_of, recovery_of}
use Rattle.sl_trace.specs.declared.delta.DeltaKnown.{DeltaKnown}
use Rattle.sl_trace.specs.declared.delta.DeltaNext.{DeltaNext}
use Rattle.sl_trace.specs.declared.delta.DeltaNext.TheVariants.{Disconnect, EndLeaving, Join, MoveConnection, Nothing, ReadOwn, RefuseJoin, RegisterAndRead, WriteClaim, WriteFirst, WriteFree, WriteRenewal}
use Rattle.sl_trace.specs.declared.session.Session.{Session}
use Rattle.sl_trace.specs.WatchdogConnections.{is_registered}
use Rattle.sl_trace.specs.Traces.{end_of, next_call, next_job, spot_of_grant}
use Rattle.sl_trace.specs.declared.command.Command.{Command}
use Rattle.sl_trace.specs.declared.command.Command.TheVariants.{Acquire, AddLockspace, Convert, GetLvb, HostStatus, InqLockspace, Release, ReleaseOrphan, RemLockspace, Request, RunProgram, SetKillpath, SetLvb, Status, TakeOver}
use Rattle.sl_trace.specs.declared.effects.Call.{Call}
use Rattle.sl_trace.specs.declared.effects.JoinStep.TheVariants.{FirstRead}
use Rattle.sl_trace.specs.declared.effects.LeaseStep.{LeaseStep}
use Rattle.sl_trace.specs.declared.effects.LeaseRead.TheVariants.{OfArea, OfBlock, OfFree, OfPhase1, OfPhase2}
use Rattle.sl_trace.specs.declared.effects.LeaseStep.TheVariants.{ClearMode, FreeLeader, Phase1Read, Phase1Write, Phase2Read, Phase2Write, ReadAgain, ReadArea, ReadBeforeBlock, ReadBeforeFree, SetMode, TakeLeader}
use Rattle.sl_trace.specs.declared.effects.Move.TheVariants.{Unregister}
use Rattle.sl_trace.specs.declared.effects.Op.{Op}
use Rattle.sl_trace.specs.declared.effects.Op.TheVariants.{ReadSectors}
use Rattle.sl_trace.specs.declared.effects.Purpose.{Purpose}
use Rattle.sl_trace.specs.declared.effects.Purpose.TheVariants.{Joining, SeeRequest}
use Rattle.sl_trace.specs.declared.effects.Signal.{Signal}
use Rattle.sl_trace.specs.declared.effects.Signal.TheVariants.{Kill, Term}
use Rattle.sl_trace.specs.declared.effects.Spot.{Spot}
use Rattle.sl_trace.specs.declared.effects.Work.{Work}
use Rattle.sl_trace.specs.declared.effects.Work.TheVariants.{ForJob, Settling}
use Rattle.sl_trace.specs.declared.input.Answer.{Answer}
use Rattle.sl_trace.specs.declared.input.Answer.TheVariants.{Failed, Read, Written}
use Rattle.sl_trace.specs.declared.input.Input.TheVariants.{Answer as Told, Exit, Line, Number, Spawned}
use Rattle.sl_trace.specs.declared.reply.Reply.TheVariants.{BadCommand as Misread, Done, IoFault, IoTimeout, SpawnFault}
use Rattle.std.proofs.Common.{inl, inr, refl, subst}
use Rattle.std.specs.Prelude.{Bool, Contains, List, None, [], false, is_some, true, ℕ, ◌+◌, ◌≡◌, ◌⊎◌}
use Rattle.sl_step_law.specs.SectorsAsked.{AsksLone}

-- ---- calls

abbrev NoOther : Session → List ℕ → Purpose → ℕ → Op → Type 0
NoOther s path p o op = AsksLone p op

joining_plain : (y : Step) (s : Session) (n : DeltaNext) → DeltaAllowed Anything NoOther AnyMove y s n
joining_plain y s Nothing = tt
joining_plain y s (RefuseJoin r) = λ j its. (tt, λ z is. tt)
joining_plain y s (ReadOwn step) = λ j its. tt
joining_plain y s (RegisterAndRead step) = λ j its. (tt, tt)
joining_plain y s (WriteClaim d) = λ j its. tt
joining_plain y s Disconnect = tt
joining_plain y s (WriteFirst d) = λ j its. tt
joining_plain y s (Join generation renewed) = λ j its. (tt, tt, tt)
joining_plain y s (MoveConnection renewed) = (tt, tt)
joining_plain y s (WriteRenewal d) = tt
joining_plain y s (WriteFree j d) = tt
joining_plain y s (EndLeaving j r) = (tt, tt)

renewed_plain : (y : Step) (s : Session) (recovering : Bool) (made : ℕ) (answer : Answer) → DeltaAllowed Anything NoOther AnyMove y s (next_after_renewal recovering made answer)
renewed_plain y s recovering made Written = on_bool (DeltaAllowed Anything NoOther AnyMove y s) recovering (MoveConnection made) Nothing (tt, tt) tt
renewed_plain y s recovering made Failed = tt
renewed_plain y s recovering made (Read bytes) = tt

freed_plain : (y : Step) (s : Session) (j call : ℕ) (answer : Answer) → DeltaAllowed Anything NoOther AnyMove y s (next_after_free j call answer)
freed_plain y s j call Written = (tt, tt)
freed_plain y s j call Failed = (tt, tt)
freed_plain y s j call (Read bytes) = tt

renewal_plain : (y : Step) (s : Session) (l : DeltaLease) (now : ℕ) (k : DeltaKnown) (bits : List ℕ) → DeltaAllowed Anything NoOther AnyMove y s (next_renewal l now k bits)
unfolding next_renewal
renewal_plain y s l now k bits =
    on_bool (DeltaAllowed Anything NoOther AnyMove y s) (is_renewal_due l now k) Nothing (WriteRenewal (delta_record l Live k.generation (k.seq + 1) now bits)) tt tt

free_plain : (y : Step) (s : Session) (l : DeltaLease) (now : ℕ) (k : DeltaKnown) → DeltaAllowed Anything NoOther AnyMove y s (next_free l now k)
free_plain y s l now k =
    on_option (DeltaAllowed Anything NoOther AnyMove y s) k.leaving Nothing (λ j. elim k.freed [ true ↦ Nothing | false ↦ WriteFree j (delta_record l Free k.generation (k.seq + 1) now no_bits) ]) tt
    (λ j. on_bool (DeltaAllowed Anything NoOther AnyMove y s) k.freed (WriteFree j (delta_record l Free k.generation (k.seq + 1) now no_bits)) Nothing tt tt)

reads_plain : (y : Step) (s : Session) (at : Spot) (work : Work) (step : LeaseStep) → ReadAllowed NoOther y s at work step
reads_plain y s at work (ReadArea name) = tt
reads_plain y s at work ReadBeforeFree = tt
reads_plain y s at work ReadBeforeBlock = tt
reads_plain y s at work (ReadAgain (OfArea name)) = tt
reads_plain y s at work (ReadAgain OfFree) = tt
reads_plain y s at work (ReadAgain OfBlock) = tt
reads_plain y s at work (ReadAgain OfPhase1) = tt
reads_plain y s at work (ReadAgain OfPhase2) = tt
reads_plain y s at work Phase1Write = tt
reads_plain y s at work Phase1Read = tt
reads_plain y s at work Phase2Write = tt
reads_plain y s at work Phase2Read = tt
reads_plain y s at work TakeLeader = tt
reads_plain y s at work SetMode = tt
reads_plain y s at work FreeLeader = tt
reads_plain y s at work ClearMode = tt

lease_plain : (y : Step) (s : Session) (at : Spot) (work : Work) (n : LeaseNext) → LeaseAllowed Anything NoOther AnyStart y s at work n
lease_plain y s at work No_lease = tt
lease_plain y s at work (ReadFor step) = reads_plain y s at work step
lease_plain y s at work (WriteBlock step b) = tt
lease_plain y s at work (WriteLeader step l) = tt
lease_plain y s at work (AnswerJob r) = λ j is. tt
lease_plain y s at work (GrantJob mode lver) = λ j c is reads. grant_plain j lver c
lease_plain y s at work (BecomeShared lver l) = ((λ j is. tt), tt)
lease_plain y s at work (BecomeExclusive lver b) = ((λ j is. tt), λ z same. tt)

request_plain : (x : Step) (s : Session) (j : ℕ) (bytes : List ℕ) (c : Command) → RequestAllowed Anything NoOther x s j bytes c
request_plain x s j bytes (Request r asked force) = ((λ why is. tt), refl)
request_plain x s j bytes (AddLockspace a) = tt
request_plain x s j bytes (RemLockspace a) = tt
request_plain x s j bytes (InqLockspace a) = tt
request_plain x s j bytes (HostStatus a) = tt
request_plain x s j bytes (Acquire r shared p persistent) = tt
request_plain x s j bytes (TakeOver r shared p persistent) = tt
request_plain x s j bytes (Release r p) = tt
request_plain x s j bytes (ReleaseOrphan r) = tt
request_plain x s j bytes (Convert r shared p) = tt
request_plain x s j bytes (RunProgram r shared path) = tt
request_plain x s j bytes (GetLvb r p) = tt
request_plain x s j bytes (SetLvb r p other) = tt
request_plain x s j bytes (SetKillpath p path) = tt
request_plain x s j bytes Status = tt

-- All decisions.
decision_plain : (K : Step → Type 0) (y : Step) (j : ℕ) (c : Command) (d : Decision) → DecisionAllowed K Anything NoOther AnyStart y j c d
decision_plain K y j c (Replies r) = tt
decision_plain K y j c (Joins n a) = λ z is. tt
decision_plain K y j c (Leaves s) = (tt, λ z k i there. tt)
decision_plain K y j c (ReadsArea s r) = tt
decision_plain K y j c (Shares s lver) = grant_plain j lver c
decision_plain K y j c (GivesUp s g) = (tt, lease_plain (add_end (end_of g) y) s (spot_of_grant g) (ForJob j) (next_of_release y.setting (seen (add_end (end_of g) y)) s (spot_of_grant g) g))
decision_plain K y j c (TakesOver s g) = grant_plain j g.lver c
decision_plain K y j c (ConvertsTo s r mode) = lease_plain y s (spot_of r) (ForJob j) (next_of_conversion y.setting (seen y) s (spot_of r) mode r.name)
decision_plain K y j c (Requests s r) = tt
decision_plain K y j c (SetsValue s at v) = refl
decision_plain K y j c (GetsValue s at) = refl

-- ---- an entry

abbrev pub AllAsk : Step → Type 0
AllAsk x = (c : Call) → Contains x.effects.calls c → AsksLone c.purpose c.op

one_more : (y : Step) (n : ℕ) (path : List ℕ) (p : Purpose) (o : ℕ) (op : Op) → AsksLone p op → AllAsk y → AllAsk (add_call_of n path p o op y)
one_more y n path p o op asks h c there = by (contains_last y.effects.calls (record { number = next_call y.setting (seen y); session = n; purpose = p; path = path; offset = o; op = op }) c there) where
  by : Contains y.effects.calls c ⊎ (record { number = next_call y.setting (seen y); session = n; purpose = p; path = path; offset = o; op = op } ≡ c) → AsksLone c.purpose c.op
  by (inl old) = h c old
  by (inr is) = subst (λ (z : Call). AsksLone z.purpose z.op) is asks

plain_effects : Allows AllAsk AllAsk Anything NoOther AnyStart AnyMove
plain_effects =
    record {
      ends = λ y e h. h;
      signals = λ y q signal h. h;
      moves = λ y m may h. h;
      grants = λ y g h. h;
      starts = λ y k may h. h;
      replies = λ y j r may h. h;
      calls = λ y s path p o op may h. one_more y s.number path p o op may h;
      rest = λ y h. h;
    }

pub bare_ask : (x : Step) → x.effects.calls ≡ [] → AllAsk x
bare_ask x bare c there = absurd (contains_none c (subst (λ cs. Contains cs c) bare there))

signal_ask : (x : Step) (p : ℕ) (g : Signal) → AllAsk x → AllAsk (add_signal p g x)
signal_ask x p g h = h

carried_ask : (x : Step) (text : List ℕ) (c : Command) (d : Decision) → x.effects.calls ≡ [] → AllAsk (carry_decision (next_job x.setting (seen x)) c d (with_input (Line text) x))
unfolding carry_decision
carried_ask x text c d bare =
    decision AllAsk AllAsk Anything NoOther AnyStart AnyMove plain_effects (with_input (Line text) x) (next_job x.setting (seen x)) c d (decision_plain AllAsk (with_input (Line text) x) (next_job x.setting (seen x)) c d)
    (λ n a is. one_more (with_input (Line text) x) n a.path (Joining (next_job x.setting (seen x)) FirstRead) (delta_offset x.setting.layout a.offset a.id) (ReadSectors 1) tt (bare_ask (with_input (Line text) x) bare))
    (bare_ask (with_input (Line text) x) bare)

-- ---- all acts

pub asks_are_kept : Acts AllAsk AllAsk
unfolding after_value_read
asks_are_kept =
    record {
      kills = λ x s has due h. for_each_keeps AllAsk (holders_of (seen x) s) (λ p. send p Kill) x (λ p there y k. sent AllAsk AllAsk Anything NoOther AnyStart AnyMove plain_effects tt y p Kill k) h;
      hears = λ x number answer wake bare expected h. (bare_ask (with_input (Told number answer) x) bare);
      counts = λ x text wake bare h. (bare_ask (with_input (Number text) x) bare);
      exits_as_none = λ x n wake bare none h. (bare_ask (with_input (Exit n) x) bare);
      starts = λ x n ok wake bare expected h. (bare_ask (with_input (Spawned n ok) x) bare);
      misreads = λ x text column wake bare says h. (bare_ask (answer_line text (next_job x.setting (seen x)) (Misread column) x) bare);
      answers = λ x text c r wake bare says is h. (bare_ask (answer_line text (next_job x.setting (seen x)) r x) bare);
      carries = λ x text c d wake bare says is more h. carried_ask x text c d bare;
      sees = λ x s number bytes at g has input held h. one_more x s.number g.path SeeRequest (request_offset x.setting.layout g.offset) (ReadSectors 1) refl h;
      parts = λ x s has joined recovers_one free quiet h. when_keeps AllAsk (is_registered x.setting (seen x) s.lockspace) (add_move (Unregister s.lockspace)) x (λ is k. k) h;
      frees = λ x s has joined well free quiet h. delta AllAsk AllAsk Anything NoOther AnyStart AnyMove plain_effects x s (next_free (delta_of_session x.setting s) x.reading (delta_known x.setting (seen x) s)) (free_plain x s (delta_of_session x.setting s) x.reading (delta_known x.setting (seen x) s)) h;
      times_out = λ x j m wake bare runs waits late_one h.
          (refusal AllAsk AllAsk Anything NoOther AnyStart AnyMove plain_effects x j (IoTimeout m.call.number m.reading x.reading) tt (λ z is. tt) (bare_ask x bare));
      exits = λ x n wake bare one h.
          let w : Step = with_input (Exit n) x in
          (exited AllAsk AllAsk Anything NoOther AnyStart AnyMove plain_effects (leave_holdings n w) n (λ j there. tt) (left AllAsk AllAsk Anything NoOther AnyStart AnyMove plain_effects w n (bare_ask (with_input (Exit n) x) bare)));
      fails_to_start = λ x n input h.
          (said AllAsk AllAsk Anything NoOther AnyStart AnyMove plain_effects (end_holdings n x) (job_of_start (seen x) n) SpawnFault (λ j is. tt) (ended AllAsk AllAsk Anything NoOther AnyStart AnyMove plain_effects x n h));
      signals_instead = λ x n o input stood h.
          (plain_effects.signals x o Term h);
      says_started = λ x n j input is runs h.
          (plain_effects.replies x j (started_reply (seen x) n) tt h);
      joins_on = λ x s j step m answer hears is runs h.
          (delta AllAsk AllAsk Anything NoOther AnyStart AnyMove plain_effects x s (next_in_joining (delta_of_session x.setting s) (generation_of (seen x) s) (calls_of (seen x) s) x.reading m step answer)
          (joining_plain x s (next_in_joining (delta_of_session x.setting s) (generation_of (seen x) s) (calls_of (seen x) s) x.reading m step answer)) (bare_ask x hears.bare));
      ends_joining = λ x s j step m answer hears is stops h.
          (removal_of_refused AllAsk AllAsk Anything NoOther AnyStart AnyMove plain_effects x s tt (bare_ask x hears.bare));
      renewed = λ x s m answer hears is h.
          (delta AllAsk AllAsk Anything NoOther AnyStart AnyMove plain_effects x s (next_after_renewal (is_some (recovery_of x.setting (seen x) s)) m.reading answer)
          (renewed_plain x s (is_some (recovery_of x.setting (seen x) s)) m.reading answer) (bare_ask x hears.bare));
      freed = λ x s j m answer hears is h.
          (delta AllAsk AllAsk Anything NoOther AnyStart AnyMove plain_effects x s (next_after_free j m.call.number answer) (freed_plain x s j m.call.number answer) (bare_ask x hears.bare));
      shown = λ x s m bytes hears is joined begins h.
          (stopped AllAsk AllAsk Anything NoOther AnyStart AnyMove plain_effects tt x s None (λ z k j there. tt) (bare_ask x hears.bare));
      leads_on = λ x s work step m answer aim hears is on aims h.
          (lease AllAsk AllAsk Anything NoOther AnyStart AnyMove plain_effects x s (spot_of_call x.setting.layout m) work (next_of_lease x.setting (seen x) s (spot_of_call x.setting.layout m) aim m step answer)
          (lease_plain x s (spot_of_call x.setting.layout m) work (next_of_lease x.setting (seen x) s (spot_of_call x.setting.layout m) aim m step answer)) (bare_ask x hears.bare));
      fails = λ x s m j hears lone runs h.
          (plain_effects.replies x j (IoFault m.call.number) tt (bare_ask x hears.bare));
      has_asked = λ x s m j owner hears is runs h.
          (plain_effects.replies x j Done tt (bare_ask x hears.bare));
      has_set = λ x s m j hears is runs h.
          (plain_effects.replies x j (set_reply m) tt (bare_ask x hears.bare));
      asks = λ x s m j bytes c hears is runs reads_one h.
          (requested AllAsk AllAsk Anything NoOther AnyStart AnyMove plain_effects x s j bytes c (request_plain x s j bytes c) (bare_ask x hears.bare));
      tells = λ x s m j bytes hears is runs h.
          (plain_effects.replies x j (value_reply x.setting.layout bytes) tt (bare_ask x hears.bare));
      warns = λ x s m bytes g signal hears is held own says h.
          (sent AllAsk AllAsk Anything NoOther AnyStart AnyMove plain_effects tt x g.process signal (bare_ask x hears.bare));
      joins_in_time = λ x s j has wake is runs h.
          (delta AllAsk AllAsk Anything NoOther AnyStart AnyMove plain_effects x s (next_on_wake (delta_of_session x.setting s) x.reading (calls_of (seen x) s))
          (joining_plain x s (next_on_wake (delta_of_session x.setting s) x.reading (calls_of (seen x) s))) h);
      renews = λ x s has wake joined h.
          (delta AllAsk AllAsk Anything NoOther AnyStart AnyMove plain_effects x s (next_renewal (delta_of_session x.setting s) x.reading (delta_known x.setting (seen x) s) (bits_due x.setting (calls_of (seen x) s) x.reading))
          (renewal_plain x s (delta_of_session x.setting s) x.reading (delta_known x.setting (seen x) s) (bits_due x.setting (calls_of (seen x) s) x.reading)) h);
      settles = λ x s spot has wake active whole none h.
          (lease AllAsk AllAsk Anything NoOther AnyStart AnyMove plain_effects x s spot Settling (next_of_settling x.setting (seen x) s spot)
          (lease_plain x s spot Settling (next_of_settling x.setting (seen x) s spot)) h);
    }
