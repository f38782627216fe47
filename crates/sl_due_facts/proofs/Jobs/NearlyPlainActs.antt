-- What each effect keeps but a first read, which begins a session, is kept by each act but that of a line.
use Rattle.sl_due_facts.specs.Acts.Acts.{Acts, Expects, next_of_conversion, next_of_release, next_of_settling}
use Rattle.sl_area.specs.AreaLayout.{request_offset}
use Rattle.sl_due.specs.DueAnswers.{set_reply}
use Rattle.sl_due.specs.DueCommands.{answer_line, carry_decision, decided, reply_at_once}
use Rattle.sl_due.specs.DueInputs.{end_holdings, leave_holdings, started_reply}
use Rattle.sl_due.specs.CarriedLease.{next_of_lease}
use Rattle.sl_due.specs.DueRequests.{after_value_read, bits_due, value_reply}
use Rattle.sl_due.specs.Steps.{Step, add_end, seen, with_input}
use Rattle.sl_due.specs.declared.decision.Decision.{Decision}
use Rattle.sl_due.specs.declared.decision.Decision.TheVariants.{ConvertsTo, GetsValue, GivesUp, Joins, Leaves, ReadsArea, Replies, Requests, SetsValue, Shares, TakesOver}
use Rattle.sl_due_facts.proofs.Jobs.EffectsAreAllowed.{Allows, DecisionAllowed, DeltaAllowed, GrantAllowed, LeaseAllowed, ReadAllowed, RequestAllowed, delta, ended, exited, lease, left, refusal, removal, removal_of_refused, requested, said, sent, signalled, stopped}
use Rattle.sl_due_facts.proofs.Jobs.LinesAreAllowed.{IsBegun}
use Rattle.sl_due_facts.proofs.Jobs.RepliesComeAfter.{IsLateDelta, joining_late, on_bool, on_option, wake_late}
use Rattle.sl_trace.specs.Jobs.{job_of_start}
use Rattle.sl_trace.specs.Leases.{spot_of, spot_of_call}
use Rattle.sl_trace.specs.declared.lease.LeaseNext.{LeaseNext}
use Rattle.sl_trace.specs.declared.lease.LeaseNext.TheVariants.{AnswerJob, BecomeExclusive, BecomeShared, GrantJob, Nothing as No_lease, ReadFor, WriteBlock, WriteLeader}
use Rattle.sl_sector.specs.Bitmaps.{no_bits}
use Rattle.sl_sector.specs.declared.sector.DeltaState.TheVariants.{Free, Live}
use Rattle.sl_trace.specs.DeltaDecisions.{DeltaLease, delta_known, delta_of_session, delta_record, is_renewal_due, next_after_free, next_after_renewal, next_free, next_in_joining, next_on_wake, next_renewal}
use Rattle.sl_trace.specs.Sessions.{calls_of, generation_of, is_join_call, recovery_of}
use Rattle.sl_trace.specs.declared.delta.DeltaKnown.{DeltaKnown}
use Rattle.sl_trace.specs.declared.delta.DeltaNext.{DeltaNext}
use Rattle.sl_trace.specs.declared.delta.DeltaNext.TheVariants.{Nothing, Disconnect, EndLeaving, Join, MoveConnection, ReadOwn, RefuseJoin, RegisterAndRead, WriteClaim, WriteFirst, WriteFree, WriteRenewal}
use Rattle.sl_trace.specs.declared.session.Session.{Session}
use Rattle.sl_trace.specs.Traces.{end_of, next_job, spot_of_grant}
use Rattle.sl_trace.specs.declared.command.Command.{Command}
use Rattle.sl_trace.specs.declared.command.Command.TheVariants.{Acquire, AddLockspace, Convert, GetLvb, HostStatus, InqLockspace, Release, ReleaseOrphan, RemLockspace, Request, RunProgram, SetKillpath, SetLvb, Status, TakeOver}
use Rattle.sl_trace.specs.declared.effects.JoinStep.TheVariants.{FirstRead}
use Rattle.sl_trace.specs.declared.effects.LeaseStep.{LeaseStep}
use Rattle.sl_trace.specs.declared.effects.LeaseRead.TheVariants.{OfArea, OfBlock, OfFree, OfPhase1, OfPhase2}
use Rattle.sl_trace.specs.declared.effects.LeaseStep.TheVariants.{ClearMode, FreeLeader, Phase1Read, Phase1Write, Phase2Read, Phase2Write, ReadAgain, ReadArea, ReadBeforeBlock, ReadBeforeFree, SetMode, TakeLeader}
use Rattle.sl_trace.specs.declared.effects.Move.{Move}
use Rattle.sl_trace.specs.declared.effects.Op.{Op}
use Rattle.sl_trace.specs.declared.effects.Op.TheVariants.{ReadSectors}
use Rattle.sl_trace.specs.declared.effects.Purpose.{Purpose}
use Rattle.sl_trace.specs.declared.effects.Purpose.TheVariants.{SeeRequest}
use Rattle.sl_trace.specs.declared.effects.Signal.TheVariants.{Kill, Term}
use Rattle.sl_trace.specs.declared.effects.Spot.{Spot}
use Rattle.sl_trace.specs.declared.effects.Work.{Work}
use Rattle.sl_trace.specs.declared.effects.Work.TheVariants.{ForJob, Settling}
use Rattle.sl_trace.specs.declared.input.Answer.{Answer}
use Rattle.sl_trace.specs.declared.input.Answer.TheVariants.{Failed, Read, Written}
use Rattle.sl_trace.specs.declared.input.Input.{Input}
use Rattle.sl_trace.specs.declared.input.Input.TheVariants.{Answer as Told, Exit, Line, Number, Spawned, Wake}
use Rattle.sl_trace.specs.declared.reply.Reply.{Reply}
use Rattle.sl_trace.specs.declared.reply.Reply.TheVariants.{BadCommand as Misread, Done, IoFault, IoTimeout, SpawnFault}
use Rattle.std.proofs.Common.{inl, inr, refl}
use Rattle.std.specs.Prelude.{Bool, Err, List, None, Ok, Option, [], false, is_some, true, ℕ, ◌+◌, ◌≡◌, ◌⊎◌}

abbrev pub Anything : ℕ → Reply → Type 0
Anything j r = Unit {0}

abbrev pub NoLook : Session → List ℕ → Purpose → ℕ → Op → Type 0
NoLook s path p o op = is_join_call FirstRead p ≡ false

abbrev pub AnyStart : Option ℕ → Type 0
AnyStart o = Unit {0}

abbrev pub AnyMove : Move → Type 0
AnyMove m = Unit {0}

abbrev pub Nearly : (Step → Type 0) → Type 0
Nearly K = Allows K K Anything NoLook AnyStart AnyMove

-- ---- all is allowed but a first read

pub joining_plain : (y : Step) (s : Session) (n : DeltaNext) → IsLateDelta n → DeltaAllowed Anything NoLook AnyMove y s n
joining_plain y s Nothing k = tt
joining_plain y s (RefuseJoin r) k = λ j its. (tt, λ z is. tt)
joining_plain y s (ReadOwn step) k = λ j its. k
joining_plain y s (RegisterAndRead step) k = λ j its. (tt, k)
joining_plain y s (WriteClaim d) k = λ j its. refl
joining_plain y s Disconnect k = tt
joining_plain y s (WriteFirst d) k = λ j its. refl
joining_plain y s (Join generation renewed) k = λ j its. (tt, tt, refl)
joining_plain y s (MoveConnection renewed) k = (tt, refl)
joining_plain y s (WriteRenewal d) k = refl
joining_plain y s (WriteFree j d) k = absurd k
joining_plain y s (EndLeaving j r) k = absurd k

pub renewed_plain : (y : Step) (s : Session) (recovering : Bool) (made : ℕ) (answer : Answer) → DeltaAllowed Anything NoLook AnyMove y s (next_after_renewal recovering made answer)
renewed_plain y s recovering made Written = on_bool (DeltaAllowed Anything NoLook AnyMove y s) recovering (MoveConnection made) Nothing (tt, refl) tt
renewed_plain y s recovering made Failed = tt
renewed_plain y s recovering made (Read bytes) = tt

pub freed_plain : (y : Step) (s : Session) (j call : ℕ) (answer : Answer) → DeltaAllowed Anything NoLook AnyMove y s (next_after_free j call answer)
freed_plain y s j call Written = (tt, tt)
freed_plain y s j call Failed = (tt, tt)
freed_plain y s j call (Read bytes) = tt

pub renewal_plain : (y : Step) (s : Session) (l : DeltaLease) (now : ℕ) (k : DeltaKnown) (bits : List ℕ) → DeltaAllowed Anything NoLook AnyMove y s (next_renewal l now k bits)
unfolding next_renewal
renewal_plain y s l now k bits =
    on_bool (DeltaAllowed Anything NoLook AnyMove y s) (is_renewal_due l now k) Nothing (WriteRenewal (delta_record l Live k.generation (k.seq + 1) now bits)) tt refl

pub free_plain : (y : Step) (s : Session) (l : DeltaLease) (now : ℕ) (k : DeltaKnown) → DeltaAllowed Anything NoLook AnyMove y s (next_free l now k)
free_plain y s l now k =
    on_option (DeltaAllowed Anything NoLook AnyMove y s) k.leaving Nothing (λ j. elim k.freed [ true ↦ Nothing | false ↦ WriteFree j (delta_record l Free k.generation (k.seq + 1) now no_bits) ]) tt
    (λ j. on_bool (DeltaAllowed Anything NoLook AnyMove y s) k.freed (WriteFree j (delta_record l Free k.generation (k.seq + 1) now no_bits)) Nothing refl tt)

reads_plain : (y : Step) (s : Session) (at : Spot) (work : Work) (step : LeaseStep) → ReadAllowed NoLook y s at work step
reads_plain y s at work (ReadArea name) = refl
reads_plain y s at work ReadBeforeFree = refl
reads_plain y s at work ReadBeforeBlock = refl
reads_plain y s at work (ReadAgain (OfArea name)) = refl
reads_plain y s at work (ReadAgain OfFree) = refl
reads_plain y s at work (ReadAgain OfBlock) = refl
reads_plain y s at work (ReadAgain OfPhase1) = refl
reads_plain y s at work (ReadAgain OfPhase2) = refl
reads_plain y s at work Phase1Write = refl
reads_plain y s at work Phase1Read = refl
reads_plain y s at work Phase2Write = refl
reads_plain y s at work Phase2Read = refl
reads_plain y s at work TakeLeader = refl
reads_plain y s at work SetMode = refl
reads_plain y s at work FreeLeader = refl
reads_plain y s at work ClearMode = refl

pub grant_plain : (j lver : ℕ) (c : Command) → GrantAllowed Anything AnyStart j lver c
grant_plain j lver (Acquire r shared q persistent) = tt
grant_plain j lver (TakeOver r shared q persistent) = tt
grant_plain j lver (RunProgram r shared path) = tt
grant_plain j lver (Release r q) = tt
grant_plain j lver (ReleaseOrphan r) = tt
grant_plain j lver (Convert r shared q) = tt
grant_plain j lver (Request r n force) = tt
grant_plain j lver (GetLvb r q) = tt
grant_plain j lver (SetLvb r q bytes) = tt
grant_plain j lver (AddLockspace a) = tt
grant_plain j lver (RemLockspace a) = tt
grant_plain j lver (InqLockspace a) = tt
grant_plain j lver (HostStatus a) = tt
grant_plain j lver (SetKillpath q path) = tt
grant_plain j lver Status = tt

pub lease_plain : (y : Step) (s : Session) (at : Spot) (work : Work) (n : LeaseNext) → LeaseAllowed Anything NoLook AnyStart y s at work n
lease_plain y s at work No_lease = tt
lease_plain y s at work (ReadFor step) = reads_plain y s at work step
lease_plain y s at work (WriteBlock step b) = refl
lease_plain y s at work (WriteLeader step l) = refl
lease_plain y s at work (AnswerJob r) = λ j is. tt
lease_plain y s at work (GrantJob mode lver) = λ j c is reads. grant_plain j lver c
lease_plain y s at work (BecomeShared lver l) = ((λ j is. tt), refl)
lease_plain y s at work (BecomeExclusive lver b) = ((λ j is. tt), λ z same. refl)

pub request_plain : (x : Step) (s : Session) (j : ℕ) (bytes : List ℕ) (c : Command) → RequestAllowed Anything NoLook x s j bytes c
request_plain x s j bytes (Request r asked force) = ((λ why is. tt), refl)
request_plain x s j bytes (AddLockspace a) = tt
request_plain x s j bytes (RemLockspace a) = tt
request_plain x s j bytes (InqLockspace a) = tt
request_plain x s j bytes (HostStatus a) = tt
request_plain x s j bytes (Acquire r shared p persistent) = tt
request_plain x s j bytes (TakeOver r shared p persistent) = tt
request_plain x s j bytes (Release r p) = tt
request_plain x s j bytes (ReleaseOrphan r) = tt
request_plain x s j bytes (Convert r shared p) = tt
request_plain x s j bytes (RunProgram r shared path) = tt
request_plain x s j bytes (GetLvb r p) = tt
request_plain x s j bytes (SetLvb r p other) = tt
request_plain x s j bytes (SetKillpath p path) = tt
request_plain x s j bytes Status = tt

-- All decisions but one that begins a session.
pub decision_plain : (K : Step → Type 0) (y : Step) (j : ℕ) (c : Command) (d : Decision) → IsBegun d ⊎ DecisionAllowed K Anything NoLook AnyStart y j c d
decision_plain K y j c (Replies r) = inr tt
decision_plain K y j c (Joins n a) = inl tt
decision_plain K y j c (Leaves s) = inr (tt, λ z k i there. tt)
decision_plain K y j c (ReadsArea s r) = inr refl
decision_plain K y j c (Shares s lver) = inr (grant_plain j lver c)
decision_plain K y j c (GivesUp s g) = inr (tt, lease_plain (add_end (end_of g) y) s (spot_of_grant g) (ForJob j) (next_of_release y.setting (seen (add_end (end_of g) y)) s (spot_of_grant g) g))
decision_plain K y j c (TakesOver s g) = inr (grant_plain j g.lver c)
decision_plain K y j c (ConvertsTo s r mode) = inr (lease_plain y s (spot_of r) (ForJob j) (next_of_conversion y.setting (seen y) s (spot_of r) mode r.name))
decision_plain K y j c (Requests s r) = inr refl
decision_plain K y j c (SetsValue s at v) = inr refl
decision_plain K y j c (GetsValue s at) = inr refl

-- ---- all acts

-- Whether an input is a command line.
abbrev pub is_command_line : Input → Bool
is_command_line (Line text) = true
is_command_line i = false

-- What is to be shown of inputs and lines.
pub record AtInputs (I K : Step → Type 0) : Type 0 where
  pub others : (x : Step) (i : Input) → x.input ≡ Wake → x.effects.calls ≡ [] → Expects x i → is_command_line i ≡ false → I x → K (with_input i x)
  pub misreads : (x : Step) (text : List ℕ) (column : ℕ) → x.input ≡ Wake → x.effects.calls ≡ [] → x.setting.read text ≡ Err column → I x → K (answer_line text (next_job x.setting (seen x)) (Misread column) x)
  pub answers : (x : Step) (text : List ℕ) (c : Command) (r : Reply) → x.input ≡ Wake → x.effects.calls ≡ [] → x.setting.read text ≡ Ok c → decided x.setting (seen x) x.reading c ≡ Replies r → I x
      → K (answer_line text (next_job x.setting (seen x)) r x)
  pub carries : (x : Step) (text : List ℕ) (c : Command) (d : Decision) → x.input ≡ Wake → x.effects.calls ≡ [] → x.setting.read text ≡ Ok c → decided x.setting (seen x) x.reading c ≡ d → reply_at_once d ≡ None → I x
      → K (carry_decision (next_job x.setting (seen x)) c d (with_input (Line text) x))

pub nearly_acts : (I K : Step → Type 0) → ((x : Step) → I x → K x) → Nearly K → AtInputs I K → Acts I K
unfolding after_value_read
nearly_acts I K f p q =
    record {
      kills = λ x s has due h. signalled K K Anything NoLook AnyStart AnyMove p tt x Kill s (f x h);
      times_out = λ x j m wake bare runs waits late_one h. refusal K K Anything NoLook AnyStart AnyMove p x j (IoTimeout m.call.number m.reading x.reading) tt (λ z is. tt) (f x h);
      hears = λ x number answer wake bare expected h. q.others x (Told number answer) wake bare expected refl h;
      counts = λ x text wake bare h. q.others x (Number text) wake bare refl refl h;
      exits = λ x n wake bare one h.
          let w : Step = with_input (Exit n) x in
          exited K K Anything NoLook AnyStart AnyMove p (leave_holdings n w) n (λ j there. tt) (left K K Anything NoLook AnyStart AnyMove p w n (q.others x (Exit n) wake bare refl refl h));
      exits_as_none = λ x n wake bare none h. q.others x (Exit n) wake bare refl refl h;
      starts = λ x n ok wake bare expected h. q.others x (Spawned n ok) wake bare expected refl h;
      fails_to_start = λ x n input h.
          said K K Anything NoLook AnyStart AnyMove p (end_holdings n x) (job_of_start (seen x) n) SpawnFault (λ j is. tt) (ended K K Anything NoLook AnyStart AnyMove p x n (f x h));
      signals_instead = λ x n o input stood h. p.signals x o Term (f x h);
      says_started = λ x n j input is runs h. p.replies x j (started_reply (seen x) n) tt (f x h);
      misreads = q.misreads;
      answers = q.answers;
      carries = q.carries;
      joins_on = λ x s j step m answer hears is runs h.
          delta K K Anything NoLook AnyStart AnyMove p x s (next_in_joining (delta_of_session x.setting s) (generation_of (seen x) s) (calls_of (seen x) s) x.reading m step answer)
          (joining_plain x s (next_in_joining (delta_of_session x.setting s) (generation_of (seen x) s) (calls_of (seen x) s) x.reading m step answer)
          (joining_late (delta_of_session x.setting s) (generation_of (seen x) s) (calls_of (seen x) s) x.reading m step answer)) (f x h);
      ends_joining = λ x s j step m answer hears is stops h. removal_of_refused K K Anything NoLook AnyStart AnyMove p x s tt (f x h);
      renewed = λ x s m answer hears is h.
          delta K K Anything NoLook AnyStart AnyMove p x s (next_after_renewal (is_some (recovery_of x.setting (seen x) s)) m.reading answer)
          (renewed_plain x s (is_some (recovery_of x.setting (seen x) s)) m.reading answer) (f x h);
      freed = λ x s j m answer hears is h. delta K K Anything NoLook AnyStart AnyMove p x s (next_after_free j m.call.number answer) (freed_plain x s j m.call.number answer) (f x h);
      shown = λ x s m bytes hears is joined begins h. stopped K K Anything NoLook AnyStart AnyMove p tt x s None (λ z k j there. tt) (f x h);
      sees = λ x s number bytes spot g has input held h. p.calls x s g.path SeeRequest (request_offset x.setting.layout g.offset) (ReadSectors 1) refl (f x h);
      leads_on = λ x s work step m answer aim hears is on aims h.
          lease K K Anything NoLook AnyStart AnyMove p x s (spot_of_call x.setting.layout m) work (next_of_lease x.setting (seen x) s (spot_of_call x.setting.layout m) aim m step answer)
          (lease_plain x s (spot_of_call x.setting.layout m) work (next_of_lease x.setting (seen x) s (spot_of_call x.setting.layout m) aim m step answer)) (f x h);
      fails = λ x s m j hears lone runs h. p.replies x j (IoFault m.call.number) tt (f x h);
      has_asked = λ x s m j owner hears is runs h. p.replies x j Done tt (f x h);
      has_set = λ x s m j hears is runs h. p.replies x j (set_reply m) tt (f x h);
      asks = λ x s m j bytes c hears is runs reads_one h. requested K K Anything NoLook AnyStart AnyMove p x s j bytes c (request_plain x s j bytes c) (f x h);
      tells = λ x s m j bytes hears is runs h. p.replies x j (value_reply x.setting.layout bytes) tt (f x h);
      warns = λ x s m bytes g signal hears is held own says h. sent K K Anything NoLook AnyStart AnyMove p tt x g.process signal (f x h);
      joins_in_time = λ x s j has wake is runs h.
          delta K K Anything NoLook AnyStart AnyMove p x s (next_on_wake (delta_of_session x.setting s) x.reading (calls_of (seen x) s))
          (joining_plain x s (next_on_wake (delta_of_session x.setting s) x.reading (calls_of (seen x) s)) (wake_late (delta_of_session x.setting s) x.reading (calls_of (seen x) s))) (f x h);
      renews = λ x s has wake joined h.
          delta K K Anything NoLook AnyStart AnyMove p x s (next_renewal (delta_of_session x.setting s) x.reading (delta_known x.setting (seen x) s) (bits_due x.setting (calls_of (seen x) s) x.reading))
          (renewal_plain x s (delta_of_session x.setting s) x.reading (delta_known x.setting (seen x) s) (bits_due x.setting (calls_of (seen x) s) x.reading)) (f x h);
      settles = λ x s spot has wake active whole none h.
          lease K K Anything NoLook AnyStart AnyMove p x s spot Settling (next_of_settling x.setting (seen x) s spot)
          (lease_plain x s spot Settling (next_of_settling x.setting (seen x) s spot)) (f x h);
      parts = λ x s has joined recovers_one free quiet h. removal K K Anything NoLook AnyStart AnyMove p x s.lockspace tt (f x h);
      frees = λ x s has joined well free quiet h.
          delta K K Anything NoLook AnyStart AnyMove p x s (next_free (delta_of_session x.setting s) x.reading (delta_known x.setting (seen x) s))
          (free_plain x s (delta_of_session x.setting s) x.reading (delta_known x.setting (seen x) s)) (f x h);
    }
