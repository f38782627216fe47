-- What each effect but a call that is work on an area keeps is kept by removals, refusals, signals, grants and all that a delta lease
-- decides.
use Rattle.sl_due_facts.proofs.Acts.LoopsKeep.{for_each_keeps, when_keeps, with_some_keeps}
use Rattle.sl_due_facts.specs.Acts.Acts.{Has}
use Rattle.sl_due.specs.CarriedDelta.{carry_delta, for_joining, move_connection, read_own_sector, register, survey, write_own_sector}
use Rattle.sl_due.specs.DueTimeOuts.{refuse, remove_connection, remove_of_refused}
use Rattle.sl_due.specs.DueRecovery.{send, signal_and_refuse, signal_holders}
use Rattle.sl_due.specs.DueInputs.{end_holdings, leave_holdings, refuse_jobs_of, when_running}
use Rattle.sl_due.specs.CarriedLease.{convert_for, convert_holding, for_work, grant_for, held_otherwise, with_command}
use Rattle.sl_due.specs.Steps.{Step, add_call_of, add_end, add_grant, add_move, add_reply, add_signal, add_start, seen, with_some}
use Rattle.sl_run.specs.LawfulArea.{is_area_work}
use Rattle.sl_due_leases.proofs.Ways.WayFactsHeld.EffectsLeave.{KeepsGeneration}
use Rattle.sl_trace.specs.KillPrograms.{stopper_of}
use Rattle.sl_trace.specs.Jobs.{command_numbered, is_job_of_process, jobs_of_session, process_named}
use Rattle.sl_trace.specs.DeltaDecisions.{own_offset}
use Rattle.sl_trace.specs.Sessions.{has_open_write, holders_of, is_join_call, last_renewal, refused_after, same_join_step, session_of_job}
use Rattle.sl_trace.specs.declared.delta.DeltaNext.TheVariants.{Disconnect, EndLeaving, Join, MoveConnection, Nothing, ReadOwn, RefuseJoin, RegisterAndRead, WriteClaim, WriteFirst, WriteFree, WriteRenewal}
use Rattle.sl_trace.specs.declared.delta.DeltaNext.{DeltaNext}
use Rattle.sl_trace.specs.declared.session.Session.{Session}
use Rattle.sl_time.specs.Times.{fail}
use Rattle.sl_trace.specs.WatchdogConnections.{is_registered}
use Rattle.sl_trace.specs.Traces.{Job, end_of, holdings, is_before_input, is_running, next_child, orphans_left, running_jobs, work_job}
use Rattle.sl_trace.specs.declared.command.Command.TheVariants.{Acquire, RunProgram, TakeOver}
use Rattle.sl_trace.specs.declared.command.Command.{Command}
use Rattle.sl_trace.specs.declared.effects.End.{End}
use Rattle.sl_trace.specs.declared.effects.Grant.{Grant}
use Rattle.sl_trace.specs.declared.effects.JoinStep.TheVariants.{ClaimWrite, FirstRead, FirstRenewal}
use Rattle.sl_trace.specs.declared.effects.Mode.{Mode}
use Rattle.sl_trace.specs.declared.effects.Move.TheVariants.{Register, Renew, Unregister}
use Rattle.sl_trace.specs.declared.effects.Move.{Move}
use Rattle.sl_trace.specs.declared.effects.Op.TheVariants.{ReadSectors, WriteRecord}
use Rattle.sl_trace.specs.declared.effects.Op.{Op}
use Rattle.sl_trace.specs.declared.effects.Purpose.TheVariants.{Joining, Leaving, Renewal, Survey}
use Rattle.sl_trace.specs.declared.effects.Purpose.{Purpose}
use Rattle.sl_trace.specs.declared.effects.Signal.TheVariants.{Kill, Term}
use Rattle.sl_trace.specs.declared.effects.Signal.{Signal}
use Rattle.sl_trace.specs.declared.effects.Spot.{Spot}
use Rattle.sl_trace.specs.declared.effects.Start.{Start}
use Rattle.sl_trace.specs.declared.effects.Work.{Work}
use Rattle.sl_trace.specs.declared.reply.Reply.TheVariants.{Generation, Granted, NoProcess, Recovering}
use Rattle.sl_trace.specs.declared.reply.Reply.{Reply}
use Rattle.sl_sector.specs.declared.sector.Rec.TheVariants.{DeltaIs}
use Rattle.sl_words.specs.Words.{some_is}
use Rattle.sl_words.proofs.CaseLaws.{none_some}
use Rattle.std.proofs.Common.{refl}
use Rattle.std.specs.Prelude.{List, None, Option, Some, false, filter, is_some, not, ℕ, ◌&&◌, ◌+◌, ◌==◌, ◌≡◌}

-- What is kept by each effect but a call; replies as they are allowed.
pub record ByPlain (A : Reply → Type 0) (K : Step → Type 0) : Type 0 where
  pub ends : (x : Step) (e : End) → K x → K (add_end e x)
  pub signals : (x : Step) (p : ℕ) (s : Signal) → K x → K (add_signal p s x)
  pub moves : (x : Step) (m : Move) → K x → K (add_move m x)
  pub grants : (x : Step) (g : Grant) → K x → K (add_grant g x)
  pub starts : (x : Step) (s : Start) → K x → K (add_start s x)
  pub replies : (x : Step) (j : ℕ) (r : Reply) → A r → K x → K (add_reply j r x)
  pub late : (r : Reply) → is_before_input r ≡ false → A r

-- And by each call that is no work on an area.
abbrev pub ByCalls : (Step → Type 0) → Type 0
ByCalls K =
    (x : Step) (s : Session) (path : List ℕ) (p : Purpose) (o : ℕ) (op : Op) → Has x s → is_area_work p ≡ false → is_join_call FirstRead p ≡ false → KeepsGeneration x s op → K x
    → K (add_call_of s.number path p o op x)

-- ---- connections and refusals

pub removal : (A : Reply → Type 0) (K : Step → Type 0) → ByPlain A K → (y : Step) (name : List ℕ) → K y → K (remove_connection name y)
removal A K p y name h = when_keeps K (is_registered y.setting (seen y) name) (add_move (Unregister name)) y (λ is k. p.moves y (Unregister name) k) h

pub removal_of_refused : (A : Reply → Type 0) (K : Step → Type 0) → ByPlain A K → (y : Step) (s : Session) → K y → K (remove_of_refused s y)
removal_of_refused A K p y s h =
    when_keeps K (is_some (refused_after (seen y) s) && not (has_open_write (seen y) s)) (remove_connection s.lockspace) y (λ is k. removal A K p y s.lockspace k) h

pub refusal : (A : Reply → Type 0) (K : Step → Type 0) → ByPlain A K → (y : Step) (j : ℕ) (r : Reply) → A r → K y → K (refuse j r y)
unfolding refuse
refusal A K p y j r may h =
    with_some_keeps K (session_of_job y.setting (seen y) j) remove_of_refused (add_reply j r y) (λ s is k. removal_of_refused A K p (add_reply j r y) s k) (p.replies y j r may h)

told_by : (A : Reply → Type 0) (K : Step → Type 0) → ByPlain A K → (y : Step) (q : ℕ) (o : Option (List ℕ)) → K y
    → K (elim o as (λ z. Step) [ None ↦ add_signal q Term y | Some program ↦ add_start (record { process = next_child (seen y); program = program; job = None; stands_for = Some q }) y ])
told_by A K p y q None h = p.signals y q Term h
told_by A K p y q (Some program) h = p.starts y (record { process = next_child (seen y); program = program; job = None; stands_for = Some q }) h

pub sent : (A : Reply → Type 0) (K : Step → Type 0) → ByPlain A K → (y : Step) (q : ℕ) (signal : Signal) → K y → K (send q signal y)
sent A K p y q Term h = told_by A K p y q (stopper_of y.setting (seen y) q) h
sent A K p y q Kill h = p.signals y q Kill h

pub signalled : (A : Reply → Type 0) (K : Step → Type 0) → ByPlain A K → (y : Step) (signal : Signal) (s : Session) → K y → K (signal_holders signal s y)
signalled A K p y signal s h = for_each_keeps K (holders_of (seen y) s) (λ q. send q signal) y (λ q there z k. sent A K p z q signal k) h

pub stopped : (A : Reply → Type 0) (K : Step → Type 0) → ByPlain A K → ((t : ℕ) → A (Recovering t)) → (y : Step) (s : Session) (kept : Option ℕ) → K y → K (signal_and_refuse s kept y)
unfolding signal_and_refuse
stopped A K p may y s kept h =
    let z : Step = signal_holders Term s y in
    for_each_keeps K (filter (λ (j : Job). not (some_is (λ n. n == j.number) kept)) (jobs_of_session z.setting (seen z) s)) (λ j. add_reply j.number (Recovering (last_renewal z.setting (seen z) s))) z
    (λ j there w k. p.replies w j.number (Recovering (last_renewal z.setting (seen z) s)) (may (last_renewal z.setting (seen z) s)) k) (signalled A K p y Term s h)

-- ---- exits and starts

pub ended : (A : Reply → Type 0) (K : Step → Type 0) → ByPlain A K → (x : Step) (q : ℕ) → K x → K (end_holdings q x)
ended A K p x q h = for_each_keeps K (filter (λ (g : Grant). g.process == q) (holdings (seen x))) (λ g. add_end (end_of g)) x (λ g there y k. p.ends y (end_of g) k) h

pub left : (A : Reply → Type 0) (K : Step → Type 0) → ByPlain A K → (x : Step) (q : ℕ) → K x → K (leave_holdings q x)
unfolding leave_holdings
left A K p x q h = for_each_keeps K (orphans_left q (holdings (seen x))) add_grant (end_holdings q x) (λ g there y k. p.grants y g k) (ended A K p x q h)

pub exited : (A : Reply → Type 0) (K : Step → Type 0) → ByPlain A K → (x : Step) (q : ℕ) → K x → K (refuse_jobs_of q x)
exited A K p x q h =
    for_each_keeps K (filter (is_job_of_process (seen x) q) (running_jobs x.setting (seen x))) (λ j. add_reply j.number (NoProcess q)) x
    (λ j there y k. p.replies y j.number (NoProcess q) (p.late (NoProcess q) refl) k) h

pub said : (A : Reply → Type 0) (K : Step → Type 0) → ByPlain A K → (x : Step) (o : Option ℕ) (r : Reply) → is_before_input r ≡ false → K x → K (when_running o r x)
said A K p x None r late h = h
said A K p x (Some j) r late h = when_keeps K (is_running (seen x) j) (add_reply j r) x (λ runs k. p.replies x j r (p.late r late) k) h

-- ---- grants

pub granting : (A : Reply → Type 0) (K : Step → Type 0) → ByPlain A K → (y : Step) (s : Session) (j : ℕ) (c : Command) (mode : Mode) (lver : ℕ) → K y → K (grant_for s j c mode lver y)
granting A K p y s j (Acquire r shared q persistent) mode lver h = p.replies _ j (Granted lver) (p.late (Granted lver) refl) (p.grants y _ h)
granting A K p y s j (TakeOver r shared q persistent) mode lver h = p.replies _ j (Granted lver) (p.late (Granted lver) refl) (p.grants y _ h)
granting A K p y s j (RunProgram r shared path) mode lver h = p.starts _ _ (p.grants y _ h)
granting A K p y s j c mode lver h = h

converting : (A : Reply → Type 0) (K : Step → Type 0) → ByPlain A K → (y : Step) (s : Session) (at : Spot) (j : ℕ) (c : Command) (mode : Mode) (lver : ℕ) → K y → K (convert_for s at j c mode lver y)
converting A K p y s at j c mode lver h =
    with_some_keeps K (process_named c) (λ q z. with_some (held_otherwise (seen z) s at q mode) (convert_holding j mode lver) z) y
    (λ q named k. with_some_keeps K (held_otherwise (seen y) s at q mode) (convert_holding j mode lver) y
    (λ g held f. p.replies _ j (Granted lver) (p.late (Granted lver) refl) (p.grants _ (record g { mode = mode; lver = lver }) (p.ends y (end_of g) f))) k) h

pub converted : (A : Reply → Type 0) (K : Step → Type 0) → ByPlain A K → (y : Step) (s : Session) (at : Spot) (work : Work) (mode : Mode) (lver : ℕ) → K y
    → K (for_work work (λ j. with_command j (λ c. convert_for s at j c mode lver)) y)
converted A K p y s at work mode lver h =
    with_some_keeps K (work_job work) (λ j. with_command j (λ c. convert_for s at j c mode lver)) y
    (λ j is k. with_some_keeps K (command_numbered y.setting (seen y) j) (λ c. convert_for s at j c mode lver) y (λ c found f. converting A K p y s at j c mode lver f) k) h

pub granted : (A : Reply → Type 0) (K : Step → Type 0) → ByPlain A K → (y : Step) (s : Session) (work : Work) (mode : Mode) (lver : ℕ) → K y
    → K (for_work work (λ j. with_command j (λ c. grant_for s j c mode lver)) y)
granted A K p y s work mode lver h =
    with_some_keeps K (work_job work) (λ j. with_command j (λ c. grant_for s j c mode lver)) y
    (λ j is k. with_some_keeps K (command_numbered y.setting (seen y) j) (λ c. grant_for s j c mode lver) y (λ c at k. granting A K p y s j c mode lver k) k) h

-- ---- what a delta lease decided

joining : (K : Step → Type 0) (y : Step) (s : Session) (f : ℕ → Step → Step) → ((j : ℕ) → K y → K (f j y)) → K y → K (for_joining s f y)
joining K y s f keeps h = with_some_keeps K s.job f y (λ j is k. keeps j k) h

-- What a decision of a delta lease is to be: its refusals allowed, no first read, its records of the session's generation.
abbrev pub DeltaFits : (Reply → Type 0) → Step → Session → DeltaNext → Type 0
DeltaFits A y s Nothing = Unit {0}
DeltaFits A y s (RefuseJoin r) = A r
DeltaFits A y s (ReadOwn step) = same_join_step FirstRead step ≡ false
DeltaFits A y s (RegisterAndRead step) = same_join_step FirstRead step ≡ false
DeltaFits A y s (WriteClaim d) = KeepsGeneration y s (WriteRecord (DeltaIs d))
DeltaFits A y s Disconnect = Unit {0}
DeltaFits A y s (WriteFirst d) = KeepsGeneration y s (WriteRecord (DeltaIs d))
DeltaFits A y s (Join generation renewed) = Unit {0}
DeltaFits A y s (MoveConnection renewed) = Unit {0}
DeltaFits A y s (WriteRenewal d) = KeepsGeneration y s (WriteRecord (DeltaIs d))
DeltaFits A y s (WriteFree j d) = KeepsGeneration y s (WriteRecord (DeltaIs d))
DeltaFits A y s (EndLeaving j r) = A r

-- A read writes no delta record.
pub reads_keep : (y : Step) (s : Session) (n : ℕ) → KeepsGeneration y s (ReadSectors n)
reads_keep y s n d is = absurd (none_some d is)

pub delta : (A : Reply → Type 0) (K : Step → Type 0) → ByPlain A K → ByCalls K → (y : Step) (s : Session) → Has y s → (n : DeltaNext) → DeltaFits A y s n → K y → K (carry_delta s n y)
unfolding carry_delta
delta A K p calls y s has Nothing fits h = h
delta A K p calls y s has (RefuseJoin r) fits h = joining K y s (λ j. refuse j r) (λ j k. refusal A K p y j r fits k) h
delta A K p calls y s has (ReadOwn step) fits h =
    joining K y s (λ j. read_own_sector s (Joining j step)) (λ j k. calls y s s.path (Joining j step) (own_offset y.setting s) (ReadSectors 1) has refl fits (reads_keep y s 1) k) h
delta A K p calls y s has (RegisterAndRead step) fits h =
    joining K y s (λ j z. read_own_sector s (Joining j step) (register s z))
    (λ j k. calls (register s y) s s.path (Joining j step) (own_offset y.setting s) (ReadSectors 1) has refl fits (reads_keep (register s y) s 1) (p.moves y (Register s.lockspace (y.reading + fail y.setting.timing)) k)) h
delta A K p calls y s has (WriteClaim d) fits h =
    joining K y s (λ j. write_own_sector s (Joining j ClaimWrite) d) (λ j k. calls y s s.path (Joining j ClaimWrite) (own_offset y.setting s) (WriteRecord (DeltaIs d)) has refl refl fits k) h
delta A K p calls y s has Disconnect fits h = removal A K p y s.lockspace h
delta A K p calls y s has (WriteFirst d) fits h =
    joining K y s (λ j. write_own_sector s (Joining j FirstRenewal) d) (λ j k. calls y s s.path (Joining j FirstRenewal) (own_offset y.setting s) (WriteRecord (DeltaIs d)) has refl refl fits k) h
delta A K p calls y s has (Join generation renewed) fits h =
    joining K y s (λ j z. survey s (add_reply j (Generation generation) (move_connection s renewed z)))
    (λ j k. calls (add_reply j (Generation generation) (move_connection s renewed y)) s s.path Survey s.offset (ReadSectors y.setting.layout.hosts) has refl refl
    (reads_keep (add_reply j (Generation generation) (move_connection s renewed y)) s y.setting.layout.hosts)
    (p.replies (move_connection s renewed y) j (Generation generation) (p.late (Generation generation) refl) (p.moves y (Renew s.lockspace (renewed + fail y.setting.timing)) k))) h
delta A K p calls y s has (MoveConnection renewed) fits h =
    calls (move_connection s renewed y) s s.path Survey s.offset (ReadSectors y.setting.layout.hosts) has refl refl (reads_keep (move_connection s renewed y) s y.setting.layout.hosts)
    (p.moves y (Renew s.lockspace (renewed + fail y.setting.timing)) h)
delta A K p calls y s has (WriteRenewal d) fits h = calls y s s.path Renewal (own_offset y.setting s) (WriteRecord (DeltaIs d)) has refl refl fits h
delta A K p calls y s has (WriteFree j d) fits h = calls y s s.path (Leaving j) (own_offset y.setting s) (WriteRecord (DeltaIs d)) has refl refl fits h
delta A K p calls y s has (EndLeaving j r) fits h =
    when_keeps K (is_running (seen y) j) (add_reply j r) (remove_connection s.lockspace y) (λ is k. p.replies (remove_connection s.lockspace y) j r fits k) (removal A K p y s.lockspace h)
