-- What each effect keeps where it is allowed is kept by all that is carried out of allowed effects: replies, calls, starts and moves have
-- their conditions, and a call comes last.

-- K is kept by each effect but a call, L holds after a call, and where none is made.
use Rattle.sl_sector.specs.declared.sector.Leader.{Leader}
use Rattle.sl_sector.specs.declared.sector.Block.{Block}
use Rattle.sl_sector.specs.declared.sector.Rec.{Rec}
use Rattle.sl_due_facts.proofs.Acts.LoopsKeep.{for_each_keeps, when_keeps, with_some_keeps}
use Rattle.sl_area.specs.AreaSizes.{Layout}
use Rattle.sl_area.specs.AreaLayout.{area_sectors, block_offset, block_place, block_sectors, delta_offset, leader_offset, request_offset, value_offset}
use Rattle.sl_area.specs.AreaRecords.{block_record, leader_record}
use Rattle.sl_due.specs.DueCommands.{after_end, carry_decision}
use Rattle.sl_due.specs.CarriedDelta.{carry_delta, end_leaving, for_joining, move_connection, read_own_sector, register, survey, write_own_sector}
use Rattle.sl_due.specs.DueTimeOuts.{refuse, remove_connection, remove_of_refused}
use Rattle.sl_due.specs.DueRecovery.{send, signal_and_refuse, signal_holders}
use Rattle.sl_due.specs.DueInputs.{end_holdings, leave_holdings, refuse_jobs_of, when_running}
use Rattle.sl_due.specs.CarriedLease.{carry_lease, convert_for, convert_holding, for_work, grant_for, held_otherwise, read_for, with_command, name_on, next_turn}
use Rattle.sl_due.specs.DueRequests.{after_request_read, owner_read, request_refusal, write_request}
use Rattle.sl_due.specs.Steps.{Step, add_call_of, add_end, add_grant, add_move, add_reply, add_signal, add_start, seen, with_some}
use Rattle.sl_due.specs.declared.decision.Decision.{Decision}
use Rattle.sl_due.specs.declared.decision.Decision.TheVariants.{ConvertsTo, GetsValue, GivesUp, Joins, Leaves, ReadsArea, Replies, Requests, SetsValue, Shares, TakesOver}
use Rattle.sl_trace.specs.KillPrograms.{stopper_of}
use Rattle.sl_trace.specs.Jobs.{command_numbered, is_job_of_process, jobs_of_session, process_named}
use Rattle.sl_due_facts.specs.Acts.Acts.{next_of_conversion, next_of_release}
use Rattle.sl_trace.specs.Leases.{holdings_on, spot_of}
use Rattle.sl_trace.specs.declared.lease.LeaseNext.{LeaseNext}
use Rattle.sl_trace.specs.declared.lease.LeaseNext.TheVariants.{AnswerJob, BecomeExclusive, BecomeShared, GrantJob, Nothing as No_lease, ReadFor, WriteBlock, WriteLeader}
use Rattle.sl_words.proofs.Lists.{kept_inside}
use Rattle.sl_sector.specs.declared.sector.Rec.TheVariants.{BlockIs, DeltaIs, LeaderIs, PairIs, PairLeaderIs, RequestIs, ValueIs}
use Rattle.sl_trace.specs.DeltaDecisions.{own_offset}
use Rattle.sl_trace.specs.Sessions.{delta_of_record, has_open_write, holders_of, last_renewal, refused_after, session_of_job}
use Rattle.sl_trace.specs.declared.delta.DeltaNext.{DeltaNext}
use Rattle.sl_trace.specs.declared.delta.DeltaNext.TheVariants.{Nothing, Disconnect, EndLeaving, Join, MoveConnection, ReadOwn, RefuseJoin, RegisterAndRead, WriteClaim, WriteFirst, WriteFree, WriteRenewal}
use Rattle.sl_trace.specs.declared.session.Session.{Session}
use Rattle.sl_time.specs.Times.{fail}
use Rattle.sl_trace.specs.WatchdogConnections.{is_registered}
use Rattle.sl_trace.specs.Traces.{Job, Setting, end_of, holdings, is_running, next_child, orphans_left, running_jobs, spot_of_grant, work_job}
use Rattle.sl_trace.specs.declared.command.Command.{Command}
use Rattle.sl_trace.specs.declared.command.Command.TheVariants.{Acquire, Request, RunProgram, TakeOver}
use Rattle.sl_trace.specs.declared.command.LockspaceArg.{LockspaceArg}
use Rattle.sl_trace.specs.declared.effects.End.{End}
use Rattle.sl_trace.specs.declared.effects.Grant.{Grant}
use Rattle.sl_trace.specs.declared.effects.JoinStep.TheVariants.{ClaimWrite, FirstRead, FirstRenewal}
use Rattle.sl_trace.specs.declared.effects.LeaseStep.{LeaseStep}
use Rattle.sl_trace.specs.declared.effects.LeaseRead.TheVariants.{OfArea, OfFree}
use Rattle.sl_trace.specs.declared.effects.LeaseStep.TheVariants.{ClearMode, FreeLeader, ReadAgain, ReadArea, ReadBeforeFree}
use Rattle.sl_trace.specs.declared.effects.Mode.{Mode}
use Rattle.sl_trace.specs.declared.effects.Mode.TheVariants.{Exclusive, Shared}
use Rattle.sl_trace.specs.declared.effects.Move.{Move}
use Rattle.sl_trace.specs.declared.effects.Move.TheVariants.{Register, Renew, Unregister}
use Rattle.sl_trace.specs.declared.effects.Op.{Op}
use Rattle.sl_trace.specs.declared.effects.Op.TheVariants.{ReadSectors, WriteRecord}
use Rattle.sl_trace.specs.declared.effects.Purpose.{Purpose}
use Rattle.sl_trace.specs.declared.effects.Purpose.TheVariants.{Joining, Lease, Leaving, Renewal, RequestRead, RequestWrite, Survey, ValueRead, ValueWrite}
use Rattle.sl_trace.specs.declared.effects.Signal.{Signal}
use Rattle.sl_trace.specs.declared.effects.Signal.TheVariants.{Kill, Term}
use Rattle.sl_trace.specs.declared.effects.Spot.{Spot}
use Rattle.sl_trace.specs.declared.effects.Start.{Start}
use Rattle.sl_trace.specs.declared.effects.Work.{Work}
use Rattle.sl_trace.specs.declared.effects.Work.TheVariants.{ForJob, Settling}
use Rattle.sl_trace.specs.declared.reply.Reply.{Reply}
use Rattle.sl_trace.specs.declared.reply.Reply.TheVariants.{Done, Generation, Granted, NoProcess, Recovering}
use Rattle.sl_words.specs.Words.{some_is}
use Rattle.std.proofs.Common.{refl, subst, sym}
use Rattle.std.specs.Prelude.{Bool, Contains, List, None, Option, Some, [], false, filter, if◌then◌else◌, is_some, not, true, ℕ, ◌&&◌, ◌+◌, ◌==◌, ◌∷◌, ◌≡◌}

pub record Allows (K L : Step → Type 0) (A : ℕ → Reply → Type 0) (C : Session → List ℕ → Purpose → ℕ → Op → Type 0) (S : Option ℕ → Type 0) (M : Move → Type 0) : Type 0 where
  pub ends : (y : Step) (e : End) → K y → K (add_end e y)
  pub signals : (y : Step) (p : ℕ) (signal : Signal) → K y → K (add_signal p signal y)
  pub moves : (y : Step) (m : Move) → M m → K y → K (add_move m y)
  pub grants : (y : Step) (g : Grant) → K y → K (add_grant g y)
  pub starts : (y : Step) (k : Start) → S k.job → K y → K (add_start k y)
  pub replies : (y : Step) (j : ℕ) (r : Reply) → A j r → K y → K (add_reply j r y)
  pub calls : (y : Step) (s : Session) (path : List ℕ) (p : Purpose) (o : ℕ) (op : Op) → C s path p o op → K y → L (add_call_of s.number path p o op y)
  pub rest : (y : Step) → K y → L y

-- ---- connections, refusals, signals

pub removal : (K L : Step → Type 0) (A : ℕ → Reply → Type 0) (C : Session → List ℕ → Purpose → ℕ → Op → Type 0) (S : Option ℕ → Type 0) (M : Move → Type 0) → Allows K L A C S M
    → (y : Step) (name : List ℕ) → M (Unregister name) → K y → K (remove_connection name y)
removal K L A C S M p y name may h = when_keeps K (is_registered y.setting (seen y) name) (add_move (Unregister name)) y (λ is k. p.moves y (Unregister name) may k) h

pub removal_of_refused : (K L : Step → Type 0) (A : ℕ → Reply → Type 0) (C : Session → List ℕ → Purpose → ℕ → Op → Type 0) (S : Option ℕ → Type 0) (M : Move → Type 0) → Allows K L A C S M
    → (y : Step) (s : Session) → M (Unregister s.lockspace) → K y → K (remove_of_refused s y)
removal_of_refused K L A C S M p y s may h =
    when_keeps K (is_some (refused_after (seen y) s) && not (has_open_write (seen y) s)) (remove_connection s.lockspace) y (λ is k. removal K L A C S M p y s.lockspace may k) h

pub refusal : (K L : Step → Type 0) (A : ℕ → Reply → Type 0) (C : Session → List ℕ → Purpose → ℕ → Op → Type 0) (S : Option ℕ → Type 0) (M : Move → Type 0) → Allows K L A C S M
    → (y : Step) (j : ℕ) (r : Reply) → A j r → ((z : Session) → session_of_job y.setting (seen y) j ≡ Some z → M (Unregister z.lockspace)) → K y → K (refuse j r y)
unfolding refuse
refusal K L A C S M p y j r may moves h =
    with_some_keeps K (session_of_job y.setting (seen y) j) remove_of_refused (add_reply j r y) (λ z is k. removal_of_refused K L A C S M p (add_reply j r y) z (moves z is) k) (p.replies y j r may h)

pub sent : (K L : Step → Type 0) (A : ℕ → Reply → Type 0) (C : Session → List ℕ → Purpose → ℕ → Op → Type 0) (S : Option ℕ → Type 0) (M : Move → Type 0) → Allows K L A C S M
    → S None → (y : Step) (q : ℕ) (signal : Signal) → K y → K (send q signal y)
sent K L A C S M p may y q Kill h = p.signals y q Kill h
sent K L A C S M p may y q Term h = by (stopper_of y.setting (seen y) q) where
  by : (o : Option (List ℕ))
      → K (elim o as (λ z. Step) [ None ↦ add_signal q Term y | Some program ↦ add_start (record { process = next_child (seen y); program = program; job = None; stands_for = Some q }) y ])
  by None = p.signals y q Term h
  by (Some program) = p.starts y (record { process = next_child (seen y); program = program; job = None; stands_for = Some q }) may h

pub signalled : (K L : Step → Type 0) (A : ℕ → Reply → Type 0) (C : Session → List ℕ → Purpose → ℕ → Op → Type 0) (S : Option ℕ → Type 0) (M : Move → Type 0) → Allows K L A C S M
    → S None → (y : Step) (signal : Signal) (s : Session) → K y → K (signal_holders signal s y)
signalled K L A C S M p may y signal s h = for_each_keeps K (holders_of (seen y) s) (λ q. send q signal) y (λ q there z k. sent K L A C S M p may z q signal k) h

abbrev not_kept : Option ℕ → Job → Bool
not_kept kept j = not (some_is (λ n. n == j.number) kept)

pub stopped : (K L : Step → Type 0) (A : ℕ → Reply → Type 0) (C : Session → List ℕ → Purpose → ℕ → Op → Type 0) (S : Option ℕ → Type 0) (M : Move → Type 0) → Allows K L A C S M
    → S None → (y : Step) (s : Session) (kept : Option ℕ)
    → ((z : Step) → K z → (j : Job) → Contains (jobs_of_session z.setting (seen z) s) j → A j.number (Recovering (last_renewal z.setting (seen z) s))) → K y → K (signal_and_refuse s kept y)
unfolding signal_and_refuse
stopped K L A C S M p none y s kept may h =
    let z : Step = signal_holders Term s y in
    let k : K z = signalled K L A C S M p none y Term s h in
    for_each_keeps K (filter (not_kept kept) (jobs_of_session z.setting (seen z) s)) (λ j. add_reply j.number (Recovering (last_renewal z.setting (seen z) s))) z
    (λ j there w f. p.replies w j.number (Recovering (last_renewal z.setting (seen z) s)) (may z k j (kept_inside (not_kept kept) (jobs_of_session z.setting (seen z) s) j there).0) f) k

-- ---- what a delta lease decided

abbrev pub DeltaAllowed : (ℕ → Reply → Type 0) → (Session → List ℕ → Purpose → ℕ → Op → Type 0) → (Move → Type 0) → Step → Session → DeltaNext → Type 0
DeltaAllowed A C M y s Nothing = Unit {0}
DeltaAllowed A C M y s (RefuseJoin r) = (j : ℕ) → s.job ≡ Some j → A j r × ((z : Session) → session_of_job y.setting (seen y) j ≡ Some z → M (Unregister z.lockspace))
DeltaAllowed A C M y s (ReadOwn step) = (j : ℕ) → s.job ≡ Some j → C s s.path (Joining j step) (own_offset y.setting s) (ReadSectors 1)
DeltaAllowed A C M y s (RegisterAndRead step) =
    (j : ℕ) → s.job ≡ Some j → M (Register s.lockspace (y.reading + fail y.setting.timing)) × C s s.path (Joining j step) (own_offset y.setting s) (ReadSectors 1)
DeltaAllowed A C M y s (WriteClaim d) = (j : ℕ) → s.job ≡ Some j → C s s.path (Joining j ClaimWrite) (own_offset y.setting s) (WriteRecord (DeltaIs d))
DeltaAllowed A C M y s Disconnect = M (Unregister s.lockspace)
DeltaAllowed A C M y s (WriteFirst d) = (j : ℕ) → s.job ≡ Some j → C s s.path (Joining j FirstRenewal) (own_offset y.setting s) (WriteRecord (DeltaIs d))
DeltaAllowed A C M y s (Join generation renewed) =
    (j : ℕ) → s.job ≡ Some j → M (Renew s.lockspace (renewed + fail y.setting.timing)) × A j (Generation generation) × C s s.path Survey s.offset (ReadSectors y.setting.layout.hosts)
DeltaAllowed A C M y s (MoveConnection renewed) = M (Renew s.lockspace (renewed + fail y.setting.timing)) × C s s.path Survey s.offset (ReadSectors y.setting.layout.hosts)
DeltaAllowed A C M y s (WriteRenewal d) = C s s.path Renewal (own_offset y.setting s) (WriteRecord (DeltaIs d))
DeltaAllowed A C M y s (WriteFree j d) = C s s.path (Leaving j) (own_offset y.setting s) (WriteRecord (DeltaIs d))
DeltaAllowed A C M y s (EndLeaving j r) = M (Unregister s.lockspace) × A j r

with_job : (L : Step → Type 0) (y : Step) (s : Session) (f : ℕ → Step → Step) → ((j : ℕ) → s.job ≡ Some j → L (f j y)) → L y → L (for_joining s f y)
with_job L y s f keeps h = with_some_keeps L s.job f y (λ j is k. keeps j is) h

pub delta : (K L : Step → Type 0) (A : ℕ → Reply → Type 0) (C : Session → List ℕ → Purpose → ℕ → Op → Type 0) (S : Option ℕ → Type 0) (M : Move → Type 0) → Allows K L A C S M
    → (y : Step) (s : Session) (n : DeltaNext) → DeltaAllowed A C M y s n → K y → L (carry_delta s n y)
unfolding carry_delta
delta K L A C S M p y s Nothing may h = p.rest y h
delta K L A C S M p y s (RefuseJoin r) may h =
    with_job L y s (λ j. refuse j r) (λ j its. p.rest (refuse j r y) (refusal K L A C S M p y j r (may j its).0 (may j its).1 h)) (p.rest y h)
delta K L A C S M p y s (ReadOwn step) may h =
    with_job L y s (λ j. read_own_sector s (Joining j step)) (λ j its. p.calls y s s.path (Joining j step) (own_offset y.setting s) (ReadSectors 1) (may j its) h) (p.rest y h)
delta K L A C S M p y s (RegisterAndRead step) may h =
    with_job L y s (λ j z. read_own_sector s (Joining j step) (register s z))
    (λ j its. p.calls (register s y) s s.path (Joining j step) (own_offset y.setting s) (ReadSectors 1) (may j its).1 (p.moves y (Register s.lockspace (y.reading + fail y.setting.timing)) (may j its).0 h)) (p.rest y h)
delta K L A C S M p y s (WriteClaim d) may h =
    with_job L y s (λ j. write_own_sector s (Joining j ClaimWrite) d) (λ j its. p.calls y s s.path (Joining j ClaimWrite) (own_offset y.setting s) (WriteRecord (DeltaIs d)) (may j its) h) (p.rest y h)
delta K L A C S M p y s Disconnect may h = p.rest (remove_connection s.lockspace y) (removal K L A C S M p y s.lockspace may h)
delta K L A C S M p y s (WriteFirst d) may h =
    with_job L y s (λ j. write_own_sector s (Joining j FirstRenewal) d) (λ j its. p.calls y s s.path (Joining j FirstRenewal) (own_offset y.setting s) (WriteRecord (DeltaIs d)) (may j its) h) (p.rest y h)
delta K L A C S M p y s (Join generation renewed) may h =
    with_job L y s (λ j z. survey s (add_reply j (Generation generation) (move_connection s renewed z)))
    (λ j its. p.calls (add_reply j (Generation generation) (move_connection s renewed y)) s s.path Survey s.offset (ReadSectors y.setting.layout.hosts) (may j its).2
    (p.replies (move_connection s renewed y) j (Generation generation) (may j its).1 (p.moves y (Renew s.lockspace (renewed + fail y.setting.timing)) (may j its).0 h))) (p.rest y h)
delta K L A C S M p y s (MoveConnection renewed) may h =
    p.calls (move_connection s renewed y) s s.path Survey s.offset (ReadSectors y.setting.layout.hosts) may.1 (p.moves y (Renew s.lockspace (renewed + fail y.setting.timing)) may.0 h)
delta K L A C S M p y s (WriteRenewal d) may h = p.calls y s s.path Renewal (own_offset y.setting s) (WriteRecord (DeltaIs d)) may h
delta K L A C S M p y s (WriteFree j d) may h = p.calls y s s.path (Leaving j) (own_offset y.setting s) (WriteRecord (DeltaIs d)) may h
delta K L A C S M p y s (EndLeaving j r) may h =
    p.rest (end_leaving s j r y)
    (when_keeps K (is_running (seen y) j) (add_reply j r) (remove_connection s.lockspace y) (λ is k. p.replies (remove_connection s.lockspace y) j r may.1 k) (removal K L A C S M p y s.lockspace may.0 h))

-- ---- what a lease decided

abbrev pub GrantAllowed : (ℕ → Reply → Type 0) → (Option ℕ → Type 0) → ℕ → ℕ → Command → Type 0
GrantAllowed A S j lver (Acquire r shared q persistent) = A j (Granted lver)
GrantAllowed A S j lver (TakeOver r shared q persistent) = A j (Granted lver)
GrantAllowed A S j lver (RunProgram r shared path) = S (Some j)
GrantAllowed A S j lver c = Unit {0}

-- A read of a lease, by its step.
abbrev pub ReadAllowed : (Session → List ℕ → Purpose → ℕ → Op → Type 0) → Step → Session → Spot → Work → LeaseStep → Type 0
ReadAllowed C y s at work (ReadArea name) = C s at.path (Lease work (ReadArea name)) at.base (ReadSectors (area_sectors y.setting.layout))
ReadAllowed C y s at work ReadBeforeFree = C s at.path (Lease work ReadBeforeFree) at.base (ReadSectors (area_sectors y.setting.layout))
ReadAllowed C y s at work (ReadAgain (OfArea name)) = C s at.path (Lease work (ReadAgain (OfArea name))) at.base (ReadSectors (area_sectors y.setting.layout))
ReadAllowed C y s at work (ReadAgain OfFree) = C s at.path (Lease work (ReadAgain OfFree)) at.base (ReadSectors (area_sectors y.setting.layout))
ReadAllowed C y s at work step = C s at.path (Lease work step) (block_offset y.setting.layout at.base 1) (ReadSectors (block_sectors y.setting.layout))

abbrev pub LeaseAllowed : (ℕ → Reply → Type 0) → (Session → List ℕ → Purpose → ℕ → Op → Type 0) → (Option ℕ → Type 0) → Step → Session → Spot → Work → LeaseNext → Type 0
LeaseAllowed A C S y s at work No_lease = Unit {0}
LeaseAllowed A C S y s at work (ReadFor step) = ReadAllowed C y s at work step
LeaseAllowed A C S y s at work (WriteBlock step b) =
    C s at.path (Lease work step) (block_place y.setting.layout at.base s.id (next_turn y.setting (seen y) s at))
    (WriteRecord (block_record y.setting.layout (next_turn y.setting (seen y) s at) s.lockspace (name_on y.setting (seen y) s at) b))
LeaseAllowed A C S y s at work (WriteLeader step l) = C s at.path (Lease work step) (leader_offset at.base) (WriteRecord (leader_record y.setting.layout l))
LeaseAllowed A C S y s at work (AnswerJob r) = (j : ℕ) → work_job work ≡ Some j → A j r
LeaseAllowed A C S y s at work (GrantJob mode lver) = (j : ℕ) (c : Command) → work_job work ≡ Some j → command_numbered y.setting (seen y) j ≡ Some c → GrantAllowed A S j lver c
LeaseAllowed A C S y s at work (BecomeShared lver l) =
    ((j : ℕ) → work_job work ≡ Some j → A j (Granted lver)) × C s at.path (Lease Settling FreeLeader) (leader_offset at.base) (WriteRecord (leader_record y.setting.layout l))
LeaseAllowed A C S y s at work (BecomeExclusive lver b) =
    ((j : ℕ) → work_job work ≡ Some j → A j (Granted lver)) × ((z : Step) → z.setting ≡ y.setting → C s at.path (Lease Settling ClearMode) (block_place z.setting.layout at.base s.id (next_turn z.setting (seen z) s at))
    (WriteRecord (block_record z.setting.layout (next_turn z.setting (seen z) s at) s.lockspace (name_on z.setting (seen z) s at) b)))

pub reads : (K L : Step → Type 0) (A : ℕ → Reply → Type 0) (C : Session → List ℕ → Purpose → ℕ → Op → Type 0) (S : Option ℕ → Type 0) (M : Move → Type 0) → Allows K L A C S M
    → (y : Step) (s : Session) (at : Spot) (work : Work) (step : LeaseStep) → ReadAllowed C y s at work step → K y → L (read_for s at work step y)
reads K L A C S M p y s at work (ReadArea name) may h = p.calls y s at.path (Lease work (ReadArea name)) at.base (ReadSectors (area_sectors y.setting.layout)) may h
reads K L A C S M p y s at work ReadBeforeFree may h = p.calls y s at.path (Lease work ReadBeforeFree) at.base (ReadSectors (area_sectors y.setting.layout)) may h
reads K L A C S M p y s at work (ReadAgain (OfArea name)) may h = p.calls y s at.path (Lease work (ReadAgain (OfArea name))) at.base (ReadSectors (area_sectors y.setting.layout)) may h
reads K L A C S M p y s at work (ReadAgain OfFree) may h = p.calls y s at.path (Lease work (ReadAgain OfFree)) at.base (ReadSectors (area_sectors y.setting.layout)) may h
reads K L A C S M p y s at work step may h = p.calls y s at.path (Lease work step) (block_offset y.setting.layout at.base 1) (ReadSectors (block_sectors y.setting.layout)) may h

pub grants_for : (K L : Step → Type 0) (A : ℕ → Reply → Type 0) (C : Session → List ℕ → Purpose → ℕ → Op → Type 0) (S : Option ℕ → Type 0) (M : Move → Type 0) → Allows K L A C S M
    → (y : Step) (s : Session) (j : ℕ) (c : Command) (mode : Mode) (lver : ℕ) → GrantAllowed A S j lver c → K y → K (grant_for s j c mode lver y)
grants_for K L A C S M p y s j (Acquire r shared q persistent) mode lver may h = p.replies _ j _ may (p.grants y _ h)
grants_for K L A C S M p y s j (TakeOver r shared q persistent) mode lver may h = p.replies _ j _ may (p.grants y _ h)
grants_for K L A C S M p y s j (RunProgram r shared path) mode lver may h = p.starts _ _ may (p.grants y _ h)
grants_for K L A C S M p y s j c mode lver may h = h

converts : (K L : Step → Type 0) (A : ℕ → Reply → Type 0) (C : Session → List ℕ → Purpose → ℕ → Op → Type 0) (S : Option ℕ → Type 0) (M : Move → Type 0) → Allows K L A C S M
    → (y : Step) (s : Session) (at : Spot) (work : Work) (mode : Mode) (lver : ℕ) → ((j : ℕ) → work_job work ≡ Some j → A j (Granted lver)) → K y
    → K (for_work work (λ j. with_command j (λ c. convert_for s at j c mode lver)) y)
converts K L A C S M p y s at work mode lver may h =
    with_some_keeps K (work_job work) (λ j. with_command j (λ c. convert_for s at j c mode lver)) y
    (λ j is k. with_some_keeps K (command_numbered y.setting (seen y) j) (λ c. convert_for s at j c mode lver) y
    (λ c found f. with_some_keeps K (process_named c) (λ q z. with_some (held_otherwise (seen z) s at q mode) (convert_holding j mode lver) z) y
    (λ q named d. with_some_keeps K (held_otherwise (seen y) s at q mode) (convert_holding j mode lver) y
    (λ g held b. p.replies _ j (Granted lver) (may j is) (p.grants _ (record g { mode = mode; lver = lver }) (p.ends y (end_of g) b))) d) f) k) h

-- No record of a lease is a delta record.
pub block_no_delta : (g : Layout) (turn : ℕ) (lockspace name : List ℕ) (b : Block) → delta_of_record (block_record g turn lockspace name b) ≡ None
block_no_delta g turn lockspace name b = by g.paired where
  by : (paired : Bool) → delta_of_record (elim paired as (λ x. Rec) [ false ↦ BlockIs b | true ↦ PairIs (record { block = b; turn = turn; lockspace = lockspace; resource = name }) ]) ≡ None
  by false = refl
  by true = refl

pub leader_no_delta : (g : Layout) (l : Leader) → delta_of_record (leader_record g l) ≡ None
leader_no_delta g l = by g.paired where
  by : (paired : Bool) → delta_of_record (elim paired as (λ x. Rec) [ false ↦ LeaderIs l | true ↦ PairLeaderIs l ]) ≡ None
  by false = refl
  by true = refl

-- A conversion leaves the setting.
abbrev IsIn : Setting → Step → Type 0
IsIn st z = z.setting ≡ st

same_setting : (y : Step) (s : Session) (at : Spot) (work : Work) (mode : Mode) (lver : ℕ) → (for_work work (λ j. with_command j (λ c. convert_for s at j c mode lver)) y).setting ≡ y.setting
same_setting y s at work mode lver =
    with_some_keeps (IsIn y.setting) (work_job work) (λ j. with_command j (λ c. convert_for s at j c mode lver)) y
    (λ j is k. with_some_keeps (IsIn y.setting) (command_numbered y.setting (seen y) j) (λ c. convert_for s at j c mode lver) y
    (λ c found f. with_some_keeps (IsIn y.setting) (process_named c) (λ q z. with_some (held_otherwise (seen z) s at q mode) (convert_holding j mode lver) z) y
    (λ q named d. with_some_keeps (IsIn y.setting) (held_otherwise (seen y) s at q mode) (convert_holding j mode lver) y (λ g held b. b) d) f) k) refl

pub lease : (K L : Step → Type 0) (A : ℕ → Reply → Type 0) (C : Session → List ℕ → Purpose → ℕ → Op → Type 0) (S : Option ℕ → Type 0) (M : Move → Type 0) → Allows K L A C S M
    → (y : Step) (s : Session) (at : Spot) (work : Work) (n : LeaseNext) → LeaseAllowed A C S y s at work n → K y → L (carry_lease s at work n y)
unfolding carry_lease
lease K L A C S M p y s at work No_lease may h = p.rest y h
lease K L A C S M p y s at work (ReadFor step) may h = reads K L A C S M p y s at work step may h
lease K L A C S M p y s at work (WriteBlock step b) may h =
    p.calls y s at.path (Lease work step) (block_place y.setting.layout at.base s.id (next_turn y.setting (seen y) s at))
    (WriteRecord (block_record y.setting.layout (next_turn y.setting (seen y) s at) s.lockspace (name_on y.setting (seen y) s at) b)) may h
lease K L A C S M p y s at work (WriteLeader step l) may h = p.calls y s at.path (Lease work step) (leader_offset at.base) (WriteRecord (leader_record y.setting.layout l)) may h
lease K L A C S M p y s at work (AnswerJob r) may h = p.rest _ (with_some_keeps K (work_job work) (λ j. add_reply j r) y (λ j is k. p.replies y j r (may j is) k) h)
lease K L A C S M p y s at work (GrantJob mode lver) may h =
    p.rest _ (with_some_keeps K (work_job work) (λ j. with_command j (λ c. grant_for s j c mode lver)) y
    (λ j is k. with_some_keeps K (command_numbered y.setting (seen y) j) (λ c. grant_for s j c mode lver) y (λ c found f. grants_for K L A C S M p y s j c mode lver (may j c is found) f) k) h)
lease K L A C S M p y s at work (BecomeShared lver l) may h =
    let z : Step = for_work work (λ j. with_command j (λ c. convert_for s at j c Shared lver)) y in
    p.calls z s at.path (Lease Settling FreeLeader) (leader_offset at.base) (WriteRecord (leader_record z.setting.layout l))
    (subst (λ (st : Setting). C s at.path (Lease Settling FreeLeader) (leader_offset at.base) (WriteRecord (leader_record st.layout l))) (sym (same_setting y s at work Shared lver)) may.1) (converts K L A C S M p y s at work Shared lver may.0 h)
lease K L A C S M p y s at work (BecomeExclusive lver b) may h =
    let z : Step = for_work work (λ j. with_command j (λ c. convert_for s at j c Exclusive lver)) y in
    p.calls z s at.path (Lease Settling ClearMode) (block_place z.setting.layout at.base s.id (next_turn z.setting (seen z) s at))
    (WriteRecord (block_record z.setting.layout (next_turn z.setting (seen z) s at) s.lockspace (name_on z.setting (seen z) s at) b))
    (may.1 z (same_setting y s at work Exclusive lver)) (converts K L A C S M p y s at work Exclusive lver may.0 h)

-- ---- what a command came to

abbrev pub DecisionAllowed : (Step → Type 0) → (ℕ → Reply → Type 0) → (Session → List ℕ → Purpose → ℕ → Op → Type 0) → (Option ℕ → Type 0) → Step → ℕ → Command → Decision → Type 0
DecisionAllowed K A C S y j c (Replies r) = Unit {0}
DecisionAllowed K A C S y j c (Joins n a) = (z : Session) → z.number ≡ n → C z a.path (Joining j FirstRead) (delta_offset y.setting.layout a.offset a.id) (ReadSectors 1)
DecisionAllowed K A C S y j c (Leaves s) =
    S None × ((z : Step) → K z → (k : Job) → Contains (jobs_of_session z.setting (seen z) s) k → A k.number (Recovering (last_renewal z.setting (seen z) s)))
DecisionAllowed K A C S y j c (ReadsArea s r) = C s r.path (Lease (ForJob j) (ReadArea r.name)) r.offset (ReadSectors (area_sectors y.setting.layout))
DecisionAllowed K A C S y j c (Shares s lver) = GrantAllowed A S j lver c
DecisionAllowed K A C S y j c (GivesUp s g) = A j Done × LeaseAllowed A C S (add_end (end_of g) y) s (spot_of_grant g) (ForJob j) (next_of_release y.setting (seen (add_end (end_of g) y)) s (spot_of_grant g) g)
DecisionAllowed K A C S y j c (TakesOver s g) = GrantAllowed A S j g.lver c
DecisionAllowed K A C S y j c (ConvertsTo s r mode) = LeaseAllowed A C S y s (spot_of r) (ForJob j) (next_of_conversion y.setting (seen y) s (spot_of r) mode r.name)
DecisionAllowed K A C S y j c (Requests s r) = C s r.path (RequestRead j) r.offset (ReadSectors 2)
DecisionAllowed K A C S y j c (SetsValue s at v) = C s at.path (ValueWrite j) (value_offset y.setting.layout at.base) (WriteRecord (ValueIs v))
DecisionAllowed K A C S y j c (GetsValue s at) = C s at.path (ValueRead j) (value_offset y.setting.layout at.base) (ReadSectors 1)

given_up : (K L : Step → Type 0) (A : ℕ → Reply → Type 0) (C : Session → List ℕ → Purpose → ℕ → Op → Type 0) (S : Option ℕ → Type 0) (M : Move → Type 0) → Allows K L A C S M
    → (y : Step) (s : Session) (at : Spot) (j : ℕ) (g : Grant) (hs : List Grant) → A j Done
    → LeaseAllowed A C S y s at (ForJob j) (next_of_release y.setting (seen y) s at g) → K y
    → L (elim hs as (λ z. Step) [ h ∷ rest ↦ add_reply j Done y | [] ↦ carry_lease s at (ForJob j) (next_of_release y.setting (seen y) s at g) y ])
given_up K L A C S M p y s at j g (h ∷ rest) done may k = p.rest _ (p.replies y j Done done k)
given_up K L A C S M p y s at j g [] done may k = lease K L A C S M p y s at (ForJob j) (next_of_release y.setting (seen y) s at g) may k

-- All decisions but one that begins a session.
pub decision : (K L : Step → Type 0) (A : ℕ → Reply → Type 0) (C : Session → List ℕ → Purpose → ℕ → Op → Type 0) (S : Option ℕ → Type 0) (M : Move → Type 0) → Allows K L A C S M
    → (y : Step) (j : ℕ) (c : Command) (d : Decision) → DecisionAllowed K A C S y j c d → ((n : ℕ) (a : LockspaceArg) → d ≡ Joins n a → L (carry_decision j c (Joins n a) y)) → K y → L (carry_decision j c d y)
unfolding carry_decision after_end
decision K L A C S M p y j c (Replies r) may begins h = p.rest y h
decision K L A C S M p y j c (Joins n a) may begins h = begins n a refl
decision K L A C S M p y j c (Leaves s) may begins h = p.rest _ (stopped K L A C S M p may.0 y s (Some j) may.1 h)
decision K L A C S M p y j c (ReadsArea s r) may begins h = reads K L A C S M p y s (spot_of r) (ForJob j) (ReadArea r.name) may h
decision K L A C S M p y j c (Shares s lver) may begins h = p.rest _ (grants_for K L A C S M p y s j c Shared lver may h)
decision K L A C S M p y j c (GivesUp s g) may begins h =
    let z : Step = add_end (end_of g) y in
    given_up K L A C S M p z s (spot_of_grant g) j g (holdings_on (seen z) s (spot_of_grant g)) may.0
    may.1 (p.ends y (end_of g) h)
decision K L A C S M p y j c (TakesOver s g) may begins h = p.rest _ (grants_for K L A C S M p (add_end (end_of g) y) s j c g.mode g.lver may (p.ends y (end_of g) h))
decision K L A C S M p y j c (ConvertsTo s r mode) may begins h = lease K L A C S M p y s (spot_of r) (ForJob j) (next_of_conversion y.setting (seen y) s (spot_of r) mode r.name) may h
decision K L A C S M p y j c (Requests s r) may begins h = p.calls y s r.path (RequestRead j) r.offset (ReadSectors 2) may h
decision K L A C S M p y j c (SetsValue s at v) may begins h = p.calls y s at.path (ValueWrite j) (value_offset y.setting.layout at.base) (WriteRecord (ValueIs v)) may h
decision K L A C S M p y j c (GetsValue s at) may begins h = p.calls y s at.path (ValueRead j) (value_offset y.setting.layout at.base) (ReadSectors 1) may h

-- ---- what other inputs do

pub ended : (K L : Step → Type 0) (A : ℕ → Reply → Type 0) (C : Session → List ℕ → Purpose → ℕ → Op → Type 0) (S : Option ℕ → Type 0) (M : Move → Type 0) → Allows K L A C S M
    → (x : Step) (q : ℕ) → K x → K (end_holdings q x)
ended K L A C S M p x q h = for_each_keeps K (filter (λ g. g.process == q) (holdings (seen x))) (λ g. add_end (end_of g)) x (λ g there y k. p.ends y (end_of g) k) h

pub left : (K L : Step → Type 0) (A : ℕ → Reply → Type 0) (C : Session → List ℕ → Purpose → ℕ → Op → Type 0) (S : Option ℕ → Type 0) (M : Move → Type 0) → Allows K L A C S M
    → (x : Step) (q : ℕ) → K x → K (leave_holdings q x)
unfolding leave_holdings
left K L A C S M p x q h = for_each_keeps K (orphans_left q (holdings (seen x))) add_grant (end_holdings q x) (λ g there y k. p.grants y g k) (ended K L A C S M p x q h)

pub exited : (K L : Step → Type 0) (A : ℕ → Reply → Type 0) (C : Session → List ℕ → Purpose → ℕ → Op → Type 0) (S : Option ℕ → Type 0) (M : Move → Type 0) → Allows K L A C S M
    → (x : Step) (q : ℕ) → ((j : Job) → Contains (running_jobs x.setting (seen x)) j → A j.number (NoProcess q)) → K x → K (refuse_jobs_of q x)
exited K L A C S M p x q may h =
    for_each_keeps K (filter (is_job_of_process (seen x) q) (running_jobs x.setting (seen x))) (λ j. add_reply j.number (NoProcess q)) x
    (λ j there y k. p.replies y j.number (NoProcess q) (may j (kept_inside (is_job_of_process (seen x) q) (running_jobs x.setting (seen x)) j there).0) k) h

pub said : (K L : Step → Type 0) (A : ℕ → Reply → Type 0) (C : Session → List ℕ → Purpose → ℕ → Op → Type 0) (S : Option ℕ → Type 0) (M : Move → Type 0) → Allows K L A C S M
    → (x : Step) (o : Option ℕ) (r : Reply) → ((j : ℕ) → o ≡ Some j → A j r) → K x → K (when_running o r x)
said K L A C S M p x None r may h = h
said K L A C S M p x (Some j) r may h = when_keeps K (is_running (seen x) j) (add_reply j r) x (λ runs k. p.replies x j r (may j refl) k) h

abbrev pub RequestAllowed : (ℕ → Reply → Type 0) → (Session → List ℕ → Purpose → ℕ → Op → Type 0) → Step → Session → ℕ → List ℕ → Command → Type 0
RequestAllowed A C x s j bytes (Request r asked force) = ((why : Reply) → request_refusal x.setting.layout s.lockspace r asked force bytes ≡ Some why → A j why) × C s r.path (RequestWrite j (owner_read x.setting.layout bytes)) (request_offset x.setting.layout r.offset)
    (WriteRecord (RequestIs (record { force = force; host = (if asked == 0 then 0 else s.id); lver = asked })))
RequestAllowed A C x s j bytes c = Unit {0}

pub requested : (K L : Step → Type 0) (A : ℕ → Reply → Type 0) (C : Session → List ℕ → Purpose → ℕ → Op → Type 0) (S : Option ℕ → Type 0) (M : Move → Type 0) → Allows K L A C S M
    → (x : Step) (s : Session) (j : ℕ) (bytes : List ℕ) (c : Command) → RequestAllowed A C x s j bytes c → K x → L (after_request_read s j bytes c x)
unfolding after_request_read
requested K L A C S M p x s j bytes (Request r asked force) may h = by (request_refusal x.setting.layout s.lockspace r asked force bytes) refl where
  by : (o : Option Reply) → request_refusal x.setting.layout s.lockspace r asked force bytes ≡ o → L (elim o as (λ z. Step) [ Some why ↦ add_reply j why x | None ↦ write_request s j (owner_read x.setting.layout bytes) r asked force x ])
  by (Some why) is = p.rest _ (p.replies x j why (may.0 why is) h)
  by None is =
      p.calls x s r.path (RequestWrite j (owner_read x.setting.layout bytes)) (request_offset x.setting.layout r.offset)
      (WriteRecord (RequestIs (record { force = force; host = (if asked == 0 then 0 else s.id); lver = asked }))) may.1 h
requested K L A C S M p x s j bytes c may h = p.rest x h
