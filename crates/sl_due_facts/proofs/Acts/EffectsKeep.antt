-- What each single effect keeps is kept by removals, refusals and signals, and by all that a delta lease or a lease decides.
use Rattle.sl_due_facts.proofs.Acts.LoopsKeep.{for_each_keeps, when_keeps, with_some_keeps}
use Rattle.sl_due_facts.proofs.Acts.SessionsStay.{asked_stays, itself}
use Rattle.sl_due_facts.specs.Acts.Acts.{Has}
use Rattle.sl_due_facts.specs.Acts.KeptByEffects.{ByEffects}
use Rattle.sl_area.specs.AreaLayout.{area_sectors, block_offset, block_place, block_sectors, leader_offset}
use Rattle.sl_area.specs.AreaRecords.{block_record, leader_record}
use Rattle.sl_due.specs.CarriedDelta.{carry_delta, for_joining, move_connection, read_own_sector, register, survey, write_own_sector}
use Rattle.sl_due.specs.DueTimeOuts.{refuse, remove_connection, remove_of_refused}
use Rattle.sl_due.specs.DueRecovery.{send, signal_and_refuse, signal_holders}
use Rattle.sl_due.specs.CarriedLease.{carry_lease, convert_for, convert_holding, for_work, grant_for, held_otherwise, name_on, next_turn, read_for, with_command}
use Rattle.sl_due.specs.Steps.{Step, add_move, add_reply, add_signal, add_start, seen, with_some}
use Rattle.sl_trace.specs.KillPrograms.{stopper_of}
use Rattle.sl_trace.specs.Jobs.{command_numbered, jobs_of_session, process_named}
use Rattle.sl_trace.specs.declared.lease.LeaseNext.TheVariants.{AnswerJob, BecomeExclusive, BecomeShared, GrantJob, Nothing as No_lease, ReadFor, WriteBlock, WriteLeader}
use Rattle.sl_trace.specs.declared.lease.LeaseNext.{LeaseNext}
use Rattle.sl_sector.specs.declared.sector.Rec.TheVariants.{DeltaIs}
use Rattle.sl_trace.specs.DeltaDecisions.{own_offset}
use Rattle.sl_trace.specs.Sessions.{has_open_write, holders_of, last_renewal, refused_after, session_of_job}
use Rattle.sl_trace.specs.declared.delta.DeltaNext.TheVariants.{Disconnect, EndLeaving, Join, MoveConnection, Nothing, ReadOwn, RefuseJoin, RegisterAndRead, WriteClaim, WriteFirst, WriteFree, WriteRenewal}
use Rattle.sl_trace.specs.declared.delta.DeltaNext.{DeltaNext}
use Rattle.sl_trace.specs.declared.session.Session.{Session}
use Rattle.sl_time.specs.Times.{fail}
use Rattle.sl_trace.specs.WatchdogConnections.{is_registered}
use Rattle.sl_trace.specs.Traces.{Job, end_of, is_running, next_child, work_job}
use Rattle.sl_trace.specs.declared.command.Command.TheVariants.{Acquire, RunProgram, TakeOver}
use Rattle.sl_trace.specs.declared.command.Command.{Command}
use Rattle.sl_trace.specs.declared.effects.JoinStep.TheVariants.{ClaimWrite, FirstRenewal}
use Rattle.sl_trace.specs.declared.effects.LeaseRead.TheVariants.{OfArea, OfFree}
use Rattle.sl_trace.specs.declared.effects.LeaseStep.TheVariants.{ClearMode, FreeLeader, ReadAgain, ReadArea, ReadBeforeFree}
use Rattle.sl_trace.specs.declared.effects.LeaseStep.{LeaseStep}
use Rattle.sl_trace.specs.declared.effects.Mode.TheVariants.{Exclusive, Shared}
use Rattle.sl_trace.specs.declared.effects.Mode.{Mode}
use Rattle.sl_trace.specs.declared.effects.Move.TheVariants.{Register, Renew, Unregister}
use Rattle.sl_trace.specs.declared.effects.Op.TheVariants.{ReadSectors, WriteRecord}
use Rattle.sl_trace.specs.declared.effects.Purpose.TheVariants.{Joining, Lease, Leaving, Renewal, Survey}
use Rattle.sl_trace.specs.declared.effects.Signal.TheVariants.{Kill, Term}
use Rattle.sl_trace.specs.declared.effects.Signal.{Signal}
use Rattle.sl_trace.specs.declared.effects.Spot.{Spot}
use Rattle.sl_trace.specs.declared.effects.Work.TheVariants.{Settling}
use Rattle.sl_trace.specs.declared.effects.Work.{Work}
use Rattle.sl_trace.specs.declared.reply.Reply.TheVariants.{Generation, Granted, Recovering}
use Rattle.sl_trace.specs.declared.reply.Reply.{Reply}
use Rattle.sl_words.specs.Words.{some_is}
use Rattle.std.specs.Prelude.{Bool, List, None, Option, Some, filter, is_some, not, ℕ, ◌&&◌, ◌+◌, ◌==◌}

-- ---- connections and refusals

pub removal : (K : Step → Type 0) → ByEffects K → (y : Step) (name : List ℕ) → K y → K (remove_connection name y)
removal K p y name h = when_keeps K (is_registered y.setting (seen y) name) (add_move (Unregister name)) y (λ is k. p.moves y (Unregister name) k) h

pub removal_of_refused : (K : Step → Type 0) → ByEffects K → (y : Step) (s : Session) → K y → K (remove_of_refused s y)
removal_of_refused K p y s h =
    when_keeps K (is_some (refused_after (seen y) s) && not (has_open_write (seen y) s)) (remove_connection s.lockspace) y (λ is k. removal K p y s.lockspace k) h

pub refusal : (K : Step → Type 0) → ByEffects K → (y : Step) (j : ℕ) (r : Reply) → K y → K (refuse j r y)
unfolding refuse
refusal K p y j r h =
    with_some_keeps K (session_of_job y.setting (seen y) j) remove_of_refused (add_reply j r y) (λ s is k. removal_of_refused K p (add_reply j r y) s k) (p.replies y j r h)

told_by : (K : Step → Type 0) → ByEffects K → (y : Step) (q : ℕ) (o : Option (List ℕ)) → K y
    → K (elim o as (λ z. Step) [ None ↦ add_signal q Term y | Some program ↦ add_start (record { process = next_child (seen y); program = program; job = None; stands_for = Some q }) y ])
told_by K p y q None h = p.signals y q Term h
told_by K p y q (Some program) h = p.starts y (record { process = next_child (seen y); program = program; job = None; stands_for = Some q }) h

pub sent : (K : Step → Type 0) → ByEffects K → (y : Step) (q : ℕ) (signal : Signal) → K y → K (send q signal y)
sent K p y q Term h = told_by K p y q (stopper_of y.setting (seen y) q) h
sent K p y q Kill h = p.signals y q Kill h

pub signalled : (K : Step → Type 0) → ByEffects K → (y : Step) (signal : Signal) (s : Session) → K y → K (signal_holders signal s y)
signalled K p y signal s h = for_each_keeps K (holders_of (seen y) s) (λ q. send q signal) y (λ q there z k. sent K p z q signal k) h

abbrev not_kept : Option ℕ → Job → Bool
not_kept kept j = not (some_is (λ n. n == j.number) kept)

pub stopped : (K : Step → Type 0) → ByEffects K → (y : Step) (s : Session) (kept : Option ℕ) → K y → K (signal_and_refuse s kept y)
unfolding signal_and_refuse
stopped K p y s kept h =
    let z : Step = signal_holders Term s y in
    for_each_keeps K (filter (not_kept kept) (jobs_of_session z.setting (seen z) s)) (λ j. add_reply j.number (Recovering (last_renewal z.setting (seen z) s))) z
    (λ j there w k. p.replies w j.number (Recovering (last_renewal z.setting (seen z) s)) k) (signalled K p y Term s h)

-- ---- what a delta lease decided

joining : (K : Step → Type 0) (y : Step) (s : Session) (f : ℕ → Step → Step) → ((j : ℕ) → K y → K (f j y)) → K y → K (for_joining s f y)
joining K y s f keeps h = with_some_keeps K s.job f y (λ j is k. keeps j k) h

pub delta : (K : Step → Type 0) → ByEffects K → (y : Step) (s : Session) → Has y s → (n : DeltaNext) → K y → K (carry_delta s n y)
unfolding carry_delta
delta K p y s has Nothing h = h
delta K p y s has (RefuseJoin r) h = joining K y s (λ j. refuse j r) (λ j k. refusal K p y j r k) h
delta K p y s has (ReadOwn step) h =
    joining K y s (λ j. read_own_sector s (Joining j step)) (λ j k. p.calls y s s.path (Joining j step) (own_offset y.setting s) (ReadSectors 1) has k) h
delta K p y s has (RegisterAndRead step) h =
    joining K y s (λ j z. read_own_sector s (Joining j step) (register s z))
    (λ j k. p.calls (register s y) s s.path (Joining j step) (own_offset y.setting s) (ReadSectors 1) has (p.moves y (Register s.lockspace (y.reading + fail y.setting.timing)) k)) h
delta K p y s has (WriteClaim d) h =
    joining K y s (λ j. write_own_sector s (Joining j ClaimWrite) d) (λ j k. p.calls y s s.path (Joining j ClaimWrite) (own_offset y.setting s) (WriteRecord (DeltaIs d)) has k) h
delta K p y s has Disconnect h = removal K p y s.lockspace h
delta K p y s has (WriteFirst d) h =
    joining K y s (λ j. write_own_sector s (Joining j FirstRenewal) d) (λ j k. p.calls y s s.path (Joining j FirstRenewal) (own_offset y.setting s) (WriteRecord (DeltaIs d)) has k) h
delta K p y s has (Join generation renewed) h =
    joining K y s (λ j z. survey s (add_reply j (Generation generation) (move_connection s renewed z)))
    (λ j k. p.calls (add_reply j (Generation generation) (move_connection s renewed y)) s s.path Survey s.offset (ReadSectors y.setting.layout.hosts) has
    (p.replies (move_connection s renewed y) j (Generation generation) (p.moves y (Renew s.lockspace (renewed + fail y.setting.timing)) k))) h
delta K p y s has (MoveConnection renewed) h =
    p.calls (move_connection s renewed y) s s.path Survey s.offset (ReadSectors y.setting.layout.hosts) has (p.moves y (Renew s.lockspace (renewed + fail y.setting.timing)) h)
delta K p y s has (WriteRenewal d) h = p.calls y s s.path Renewal (own_offset y.setting s) (WriteRecord (DeltaIs d)) has h
delta K p y s has (WriteFree j d) h = p.calls y s s.path (Leaving j) (own_offset y.setting s) (WriteRecord (DeltaIs d)) has h
delta K p y s has (EndLeaving j r) h =
    when_keeps K (is_running (seen y) j) (add_reply j r) (remove_connection s.lockspace y) (λ is k. p.replies (remove_connection s.lockspace y) j r k) (removal K p y s.lockspace h)

-- ---- what a lease decided

pub reading : (K : Step → Type 0) → ByEffects K → (y : Step) (s : Session) → Has y s → (at : Spot) (work : Work) (step : LeaseStep) → K y → K (read_for s at work step y)
reading K p y s has at work (ReadArea name) h = p.calls y s at.path (Lease work (ReadArea name)) at.base (ReadSectors (area_sectors y.setting.layout)) has h
reading K p y s has at work ReadBeforeFree h = p.calls y s at.path (Lease work ReadBeforeFree) at.base (ReadSectors (area_sectors y.setting.layout)) has h
reading K p y s has at work (ReadAgain (OfArea name)) h = p.calls y s at.path (Lease work (ReadAgain (OfArea name))) at.base (ReadSectors (area_sectors y.setting.layout)) has h
reading K p y s has at work (ReadAgain OfFree) h = p.calls y s at.path (Lease work (ReadAgain OfFree)) at.base (ReadSectors (area_sectors y.setting.layout)) has h
reading K p y s has at work step h = p.calls y s at.path (Lease work step) (block_offset y.setting.layout at.base 1) (ReadSectors (block_sectors y.setting.layout)) has h

pub granting : (K : Step → Type 0) → ByEffects K → (y : Step) (s : Session) (j : ℕ) (c : Command) (mode : Mode) (lver : ℕ) → K y → K (grant_for s j c mode lver y)
granting K p y s j (Acquire r shared q persistent) mode lver h = p.replies _ j _ (p.grants y _ h)
granting K p y s j (TakeOver r shared q persistent) mode lver h = p.replies _ j _ (p.grants y _ h)
granting K p y s j (RunProgram r shared path) mode lver h = p.starts _ _ (p.grants y _ h)
granting K p y s j c mode lver h = h

converting : (K : Step → Type 0) → ByEffects K → (y : Step) (s : Session) (at : Spot) (j : ℕ) (c : Command) (mode : Mode) (lver : ℕ) → K y → K (convert_for s at j c mode lver y)
converting K p y s at j c mode lver h =
    with_some_keeps K (process_named c) (λ q z. with_some (held_otherwise (seen z) s at q mode) (convert_holding j mode lver) z) y
    (λ q named k. with_some_keeps K (held_otherwise (seen y) s at q mode) (convert_holding j mode lver) y
    (λ g held f. p.replies _ j (Granted lver) (p.grants _ (record g { mode = mode; lver = lver }) (p.ends y (end_of g) f))) k) h

converted : (K : Step → Type 0) → ByEffects K → (y : Step) (s : Session) (at : Spot) (work : Work) (mode : Mode) (lver : ℕ) → K y
    → K (for_work work (λ j. with_command j (λ c. convert_for s at j c mode lver)) y)
converted K p y s at work mode lver h =
    with_some_keeps K (work_job work) (λ j. with_command j (λ c. convert_for s at j c mode lver)) y
    (λ j is k. with_some_keeps K (command_numbered y.setting (seen y) j) (λ c. convert_for s at j c mode lver) y (λ c found f. converting K p y s at j c mode lver f) k) h

still_has : (y : Step) (s : Session) (at : Spot) (work : Work) (mode : Mode) (lver : ℕ) → Has y s → Has (for_work work (λ j. with_command j (λ c. convert_for s at j c mode lver)) y) s
still_has y s at work mode lver has = (asked_stays y y s at work mode lver (itself y)).sessions s has

pub lease : (K : Step → Type 0) → ByEffects K → (y : Step) (s : Session) → Has y s → (at : Spot) (work : Work) (n : LeaseNext) → K y → K (carry_lease s at work n y)
unfolding carry_lease
lease K p y s has at work No_lease h = h
lease K p y s has at work (ReadFor step) h = reading K p y s has at work step h
lease K p y s has at work (WriteBlock step b) h = p.calls y s at.path (Lease work step) (block_place y.setting.layout at.base s.id (next_turn y.setting (seen y) s at))
    (WriteRecord (block_record y.setting.layout (next_turn y.setting (seen y) s at) s.lockspace (name_on y.setting (seen y) s at) b)) has h
lease K p y s has at work (WriteLeader step l) h = p.calls y s at.path (Lease work step) (leader_offset at.base) (WriteRecord (leader_record y.setting.layout l)) has h
lease K p y s has at work (AnswerJob r) h = with_some_keeps K (work_job work) (λ j. add_reply j r) y (λ j is k. p.replies y j r k) h
lease K p y s has at work (GrantJob mode lver) h =
    with_some_keeps K (work_job work) (λ j. with_command j (λ c. grant_for s j c mode lver)) y
    (λ j is k. with_some_keeps K (command_numbered y.setting (seen y) j) (λ c. grant_for s j c mode lver) y (λ c at k. granting K p y s j c mode lver k) k) h
lease K p y s has at work (BecomeShared lver l) h =
    let z : Step = for_work work (λ j. with_command j (λ c. convert_for s at j c Shared lver)) y in
    let there : Has z s = still_has y s at work Shared lver has in
    p.calls z s at.path (Lease Settling FreeLeader) (leader_offset at.base) (WriteRecord (leader_record z.setting.layout l)) there (converted K p y s at work Shared lver h)
lease K p y s has at work (BecomeExclusive lver b) h =
    let z : Step = for_work work (λ j. with_command j (λ c. convert_for s at j c Exclusive lver)) y in
    let there : Has z s = still_has y s at work Exclusive lver has in
    p.calls z s at.path (Lease Settling ClearMode) (block_place z.setting.layout at.base s.id (next_turn z.setting (seen z) s at))
    (WriteRecord (block_record z.setting.layout (next_turn z.setting (seen z) s at) s.lockspace (name_on z.setting (seen z) s at) b)) there (converted K p y s at work Exclusive lver h)
