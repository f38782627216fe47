-- What no effect takes from a step: its input, and the sessions that the trace has.
use Rattle.sl_due_facts.proofs.Acts.AddedAtEnd.{any_stays, begun_by}
use Rattle.sl_due_facts.proofs.Acts.LoopsKeep.{when_keeps, with_some_keeps}
use Rattle.sl_due_facts.specs.Acts.Acts.{Has}
use Rattle.sl_due_facts.specs.Acts.TraceSoFar.{entry_of}
use Rattle.sl_area.specs.AreaLayout.{area_sectors, block_offset, block_place, block_sectors, leader_offset}
use Rattle.sl_area.specs.AreaRecords.{block_record, leader_record}
use Rattle.sl_due.specs.CarriedDelta.{carry_delta, for_joining, move_connection, read_own_sector, register, survey, write_own_sector}
use Rattle.sl_due.specs.DueTimeOuts.{refuse, remove_connection, remove_of_refused}
use Rattle.sl_due.specs.CarriedLease.{carry_lease, convert_for, convert_holding, for_work, grant_for, held_otherwise, name_on, next_turn, read_area, read_for, with_command}
use Rattle.sl_due.specs.Steps.{Step, add_call_of, add_move, add_reply, seen, with_some}
use Rattle.sl_trace.specs.Jobs.{command_numbered, process_named}
use Rattle.sl_trace.specs.declared.lease.LeaseNext.TheVariants.{AnswerJob, BecomeExclusive, BecomeShared, GrantJob, Nothing as No_lease, ReadFor, WriteBlock, WriteLeader}
use Rattle.sl_trace.specs.declared.lease.LeaseNext.{LeaseNext}
use Rattle.sl_words.proofs.Lists.{got_before}
use Rattle.sl_sector.specs.declared.sector.Rec.TheVariants.{DeltaIs}
use Rattle.sl_trace.specs.DeltaDecisions.{own_offset}
use Rattle.sl_trace.specs.Sessions.{has_open_write, is_join_call, refused_after, session_numbered, session_of_job, sessions}
use Rattle.sl_trace.specs.declared.delta.DeltaNext.TheVariants.{Disconnect, EndLeaving, Join, MoveConnection, Nothing, ReadOwn, RefuseJoin, RegisterAndRead, WriteClaim, WriteFirst, WriteFree, WriteRenewal}
use Rattle.sl_trace.specs.declared.delta.DeltaNext.{DeltaNext}
use Rattle.sl_trace.specs.declared.session.Session.{Session}
use Rattle.sl_time.specs.Times.{fail}
use Rattle.sl_trace.specs.WatchdogConnections.{is_registered}
use Rattle.sl_trace.specs.TraceLaws.{with_call}
use Rattle.sl_trace.specs.Traces.{Setting, Trace, is_running, next_call, work_job}
use Rattle.sl_trace.specs.declared.command.Command.TheVariants.{Acquire, RunProgram, TakeOver}
use Rattle.sl_trace.specs.declared.command.Command.{Command}
use Rattle.sl_trace.specs.declared.effects.Call.{Call}
use Rattle.sl_trace.specs.declared.effects.Entry.{Entry}
use Rattle.sl_trace.specs.declared.effects.JoinStep.TheVariants.{ClaimWrite, FirstRead, FirstRenewal}
use Rattle.sl_trace.specs.declared.effects.LeaseRead.TheVariants.{OfArea, OfFree}
use Rattle.sl_trace.specs.declared.effects.LeaseStep.TheVariants.{ClearMode, FreeLeader, ReadAgain, ReadArea, ReadBeforeFree}
use Rattle.sl_trace.specs.declared.effects.LeaseStep.{LeaseStep}
use Rattle.sl_trace.specs.declared.effects.Mode.TheVariants.{Exclusive, Shared}
use Rattle.sl_trace.specs.declared.effects.Mode.{Mode}
use Rattle.sl_trace.specs.declared.effects.Move.TheVariants.{Register, Renew, Unregister}
use Rattle.sl_trace.specs.declared.effects.Move.{Move}
use Rattle.sl_trace.specs.declared.effects.Op.TheVariants.{ReadSectors, WriteRecord}
use Rattle.sl_trace.specs.declared.effects.Op.{Op}
use Rattle.sl_trace.specs.declared.effects.Purpose.TheVariants.{Joining, Lease, Leaving, Renewal, Survey}
use Rattle.sl_trace.specs.declared.effects.Purpose.{Purpose}
use Rattle.sl_trace.specs.declared.effects.Spot.{Spot}
use Rattle.sl_trace.specs.declared.effects.Work.TheVariants.{Settling}
use Rattle.sl_trace.specs.declared.effects.Work.{Work}
use Rattle.sl_trace.specs.declared.reply.Reply.TheVariants.{Generation}
use Rattle.sl_trace.specs.declared.reply.Reply.{Reply}
use Rattle.std.proofs.Common.{ap, append-nil, refl, sym, ◌∙◌}
use Rattle.std.specs.List.{list_any}
use Rattle.std.specs.Prelude.{Bool, List, Some, false, is_some, length, not, slice_get, true, ℕ, ◌&&◌, ◌++◌, ◌+◌, ◌∷◌, ◌≡◌}

pub record Stays (x y : Step) : Type 0 where
  pub sessions : (s : Session) → Has x s → Has y s
  pub input : y.input ≡ x.input

pub itself : (x : Step) → Stays x x
itself x = record { sessions = λ s has. has; input = refl }

-- ---- a call

-- Sessions that an entry with a call has are among those of the entry with one more.
pub numbered_more : (st : Setting) (past : Trace) (e : Entry) (c : Call) (n : ℕ) (s : Session) → session_numbered st (e ∷ past) n ≡ Some s → session_numbered st (with_call c e ∷ past) n ≡ Some s
numbered_more st past e c n s at = by (list_any (λ (d : Call). is_join_call FirstRead d.purpose) e.effects.calls) refl where
  by : (b : Bool) → list_any (λ (d : Call). is_join_call FirstRead d.purpose) e.effects.calls ≡ b → session_numbered st (with_call c e ∷ past) n ≡ Some s
  by true is =
      ap (λ b. slice_get (sessions st past ++ begun_by st past (length (sessions st past)) e b) n) (any_stays (λ (d : Call). is_join_call FirstRead d.purpose) e.effects.calls c is)
      ∙ (ap (λ b. slice_get (sessions st past ++ begun_by st past (length (sessions st past)) e b) n) (sym is) ∙ at)
  by false is =
      got_before (sessions st past) (begun_by st past (length (sessions st past)) e (list_any (λ (d : Call). is_join_call FirstRead d.purpose) (with_call c e).effects.calls)) n s
      (sym (ap (λ ss. slice_get ss n) (append-nil (sessions st past))) ∙ (ap (λ b. slice_get (sessions st past ++ begun_by st past (length (sessions st past)) e b) n) (sym is) ∙ at))

pub call_stays : (x y : Step) (n : ℕ) (path : List ℕ) (p : Purpose) (o : ℕ) (op : Op) → Stays x y → Stays x (add_call_of n path p o op y)
call_stays x y n path p o op h =
    record {
      sessions = λ s has. numbered_more y.setting y.past (entry_of y) (record { number = next_call y.setting (seen y); session = n; purpose = p; path = path; offset = o; op = op }) s.number s (h.sessions s has);
      input = h.input;
    }

-- ---- what a delta lease decided

pub move_stays : (x y : Step) (m : Move) → Stays x y → Stays x (add_move m y)
move_stays x y m h = record { sessions = h.sessions; input = h.input }

pub reply_stays : (x y : Step) (j : ℕ) (r : Reply) → Stays x y → Stays x (add_reply j r y)
reply_stays x y j r h = record { sessions = h.sessions; input = h.input }

pub removal_stays : (x y : Step) (name : List ℕ) → Stays x y → Stays x (remove_connection name y)
removal_stays x y name h = when_keeps (Stays x) (is_registered y.setting (seen y) name) (add_move (Unregister name)) y (λ is k. move_stays x y (Unregister name) k) h

pub refusal_stays : (x y : Step) (s : Session) → Stays x y → Stays x (remove_of_refused s y)
refusal_stays x y s h =
    when_keeps (Stays x) (is_some (refused_after (seen y) s) && not (has_open_write (seen y) s)) (remove_connection s.lockspace) y (λ is k. removal_stays x y s.lockspace k) h

pub refused_stays : (x y : Step) (j : ℕ) (r : Reply) → Stays x y → Stays x (refuse j r y)
unfolding refuse
refused_stays x y j r h =
    with_some_keeps (Stays x) (session_of_job y.setting (seen y) j) remove_of_refused (add_reply j r y) (λ s is k. refusal_stays x (add_reply j r y) s k) (reply_stays x y j r h)

for_joining_stays : (x y : Step) (s : Session) (f : ℕ → Step → Step) → ((j : ℕ) → Stays x y → Stays x (f j y)) → Stays x y → Stays x (for_joining s f y)
for_joining_stays x y s f keeps h = with_some_keeps (Stays x) s.job f y (λ j is k. keeps j k) h

pub delta_stays : (x y : Step) (s : Session) (n : DeltaNext) → Stays x y → Stays x (carry_delta s n y)
unfolding carry_delta
delta_stays x y s Nothing h = h
delta_stays x y s (RefuseJoin r) h = for_joining_stays x y s (λ j. refuse j r) (λ j k. refused_stays x y j r k) h
delta_stays x y s (ReadOwn step) h =
    for_joining_stays x y s (λ j. read_own_sector s (Joining j step)) (λ j k. call_stays x y s.number s.path (Joining j step) (own_offset y.setting s) (ReadSectors 1) k) h
delta_stays x y s (RegisterAndRead step) h =
    for_joining_stays x y s (λ j z. read_own_sector s (Joining j step) (register s z))
    (λ j k. call_stays x (register s y) s.number s.path (Joining j step) (own_offset y.setting s) (ReadSectors 1) (move_stays x y (Register s.lockspace (y.reading + fail y.setting.timing)) k)) h
delta_stays x y s (WriteClaim d) h =
    for_joining_stays x y s (λ j. write_own_sector s (Joining j ClaimWrite) d) (λ j k. call_stays x y s.number s.path (Joining j ClaimWrite) (own_offset y.setting s) (WriteRecord (DeltaIs d)) k) h
delta_stays x y s Disconnect h = removal_stays x y s.lockspace h
delta_stays x y s (WriteFirst d) h =
    for_joining_stays x y s (λ j. write_own_sector s (Joining j FirstRenewal) d) (λ j k. call_stays x y s.number s.path (Joining j FirstRenewal) (own_offset y.setting s) (WriteRecord (DeltaIs d)) k) h
delta_stays x y s (Join generation renewed) h =
    for_joining_stays x y s (λ j z. survey s (add_reply j (Generation generation) (move_connection s renewed z)))
    (λ j k. call_stays x (add_reply j (Generation generation) (move_connection s renewed y)) s.number s.path Survey s.offset (ReadSectors y.setting.layout.hosts)
    (reply_stays x (move_connection s renewed y) j (Generation generation) (move_stays x y (Renew s.lockspace (renewed + fail y.setting.timing)) k))) h
delta_stays x y s (MoveConnection renewed) h =
    call_stays x (move_connection s renewed y) s.number s.path Survey s.offset (ReadSectors y.setting.layout.hosts) (move_stays x y (Renew s.lockspace (renewed + fail y.setting.timing)) h)
delta_stays x y s (WriteRenewal d) h = call_stays x y s.number s.path Renewal (own_offset y.setting s) (WriteRecord (DeltaIs d)) h
delta_stays x y s (WriteFree j d) h = call_stays x y s.number s.path (Leaving j) (own_offset y.setting s) (WriteRecord (DeltaIs d)) h
delta_stays x y s (EndLeaving j r) h =
    when_keeps (Stays x) (is_running (seen y) j) (add_reply j r) (remove_connection s.lockspace y)
    (λ is k. reply_stays x (remove_connection s.lockspace y) j r k) (removal_stays x y s.lockspace h)

-- ---- what a lease decided

area_stays : (x y : Step) (s : Session) (at : Spot) (work : Work) (step : LeaseStep) → Stays x y → Stays x (read_area s at work step y)
area_stays x y s at work step h = call_stays x y s.number at.path (Lease work step) at.base (ReadSectors (area_sectors y.setting.layout)) h

read_stays : (x y : Step) (s : Session) (at : Spot) (work : Work) (step : LeaseStep) → Stays x y → Stays x (read_for s at work step y)
read_stays x y s at work (ReadArea name) h = area_stays x y s at work (ReadArea name) h
read_stays x y s at work ReadBeforeFree h = area_stays x y s at work ReadBeforeFree h
read_stays x y s at work (ReadAgain (OfArea name)) h = area_stays x y s at work (ReadAgain (OfArea name)) h
read_stays x y s at work (ReadAgain OfFree) h = area_stays x y s at work (ReadAgain OfFree) h
read_stays x y s at work step h = call_stays x y s.number at.path (Lease work step) (block_offset y.setting.layout at.base 1) (ReadSectors (block_sectors y.setting.layout)) h

granted_stays : (x y : Step) (s : Session) (j : ℕ) (c : Command) (mode : Mode) (lver : ℕ) → Stays x y → Stays x (grant_for s j c mode lver y)
granted_stays x y s j (Acquire r shared p persistent) mode lver h = record { sessions = h.sessions; input = h.input }
granted_stays x y s j (TakeOver r shared p persistent) mode lver h = record { sessions = h.sessions; input = h.input }
granted_stays x y s j (RunProgram r shared path) mode lver h = record { sessions = h.sessions; input = h.input }
granted_stays x y s j c mode lver h = h

converted_stays : (x y : Step) (s : Session) (at : Spot) (j : ℕ) (c : Command) (mode : Mode) (lver : ℕ) → Stays x y → Stays x (convert_for s at j c mode lver y)
converted_stays x y s at j c mode lver h =
    with_some_keeps (Stays x) (process_named c) (λ p z. with_some (held_otherwise (seen z) s at p mode) (convert_holding j mode lver) z) y
    (λ p named k. with_some_keeps (Stays x) (held_otherwise (seen y) s at p mode) (convert_holding j mode lver) y (λ g held f. record { sessions = f.sessions; input = f.input }) k) h

pub asked_stays : (x y : Step) (s : Session) (at : Spot) (work : Work) (mode : Mode) (lver : ℕ) → Stays x y → Stays x (for_work work (λ j. with_command j (λ c. convert_for s at j c mode lver)) y)
asked_stays x y s at work mode lver h =
    with_some_keeps (Stays x) (work_job work) (λ j. with_command j (λ c. convert_for s at j c mode lver)) y
    (λ j is k. with_some_keeps (Stays x) (command_numbered y.setting (seen y) j) (λ c. convert_for s at j c mode lver) y (λ c found f. converted_stays x y s at j c mode lver f) k) h

pub lease_stays : (x y : Step) (s : Session) (at : Spot) (work : Work) (n : LeaseNext) → Stays x y → Stays x (carry_lease s at work n y)
unfolding carry_lease
lease_stays x y s at work No_lease h = h
lease_stays x y s at work (ReadFor step) h = read_stays x y s at work step h
lease_stays x y s at work (WriteBlock step b) h = call_stays x y s.number at.path (Lease work step) (block_place y.setting.layout at.base s.id (next_turn y.setting (seen y) s at))
    (WriteRecord (block_record y.setting.layout (next_turn y.setting (seen y) s at) s.lockspace (name_on y.setting (seen y) s at) b)) h
lease_stays x y s at work (WriteLeader step l) h = call_stays x y s.number at.path (Lease work step) (leader_offset at.base) (WriteRecord (leader_record y.setting.layout l)) h
lease_stays x y s at work (AnswerJob r) h = with_some_keeps (Stays x) (work_job work) (λ j. add_reply j r) y (λ j is k. reply_stays x y j r k) h
lease_stays x y s at work (GrantJob mode lver) h =
    with_some_keeps (Stays x) (work_job work) (λ j. with_command j (λ c. grant_for s j c mode lver)) y
    (λ j is k. with_some_keeps (Stays x) (command_numbered y.setting (seen y) j) (λ c. grant_for s j c mode lver) y (λ c at k. granted_stays x y s j c mode lver k) k) h
lease_stays x y s at work (BecomeShared lver l) h =
    let z : Step = for_work work (λ j. with_command j (λ c. convert_for s at j c Shared lver)) y in
    call_stays x z s.number at.path (Lease Settling FreeLeader) (leader_offset at.base) (WriteRecord (leader_record z.setting.layout l)) (asked_stays x y s at work Shared lver h)
lease_stays x y s at work (BecomeExclusive lver b) h =
    let z : Step = for_work work (λ j. with_command j (λ c. convert_for s at j c Exclusive lver)) y in
    call_stays x z s.number at.path (Lease Settling ClearMode) (block_place z.setting.layout at.base s.id (next_turn z.setting (seen z) s at))
    (WriteRecord (block_record z.setting.layout (next_turn z.setting (seen z) s at) s.lockspace (name_on z.setting (seen z) s at) b)) (asked_stays x y s at work Exclusive lver h)
