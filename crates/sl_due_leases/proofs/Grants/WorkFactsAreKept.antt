-- The facts of a job's work are kept by each act.
use Rattle.sl_due_facts.specs.Acts.Acts.{next_of_settling}
use Rattle.sl_due_facts.specs.Acts.TraceSoFar.{entry_of}
use Rattle.sl_area.specs.AreaLayout.{area_sectors, block_offset, block_place, block_sectors, leader_offset, request_offset}
use Rattle.sl_area.specs.AreaRecords.{block_record, leader_record}
use Rattle.sl_due.specs.DueAnswers.{set_reply}
use Rattle.sl_due.specs.CarriedDelta.{carry_delta}
use Rattle.sl_due.specs.DueInputs.{end_holdings, started_reply}
use Rattle.sl_due.specs.CarriedLease.{carry_lease, lease_call, name_on, next_turn, read_for, write_block}
use Rattle.sl_due.specs.DueRequests.{after_request_read, after_value_read, bits_due, owner_read, request_refusal, value_reply, write_request}
use Rattle.sl_due.specs.Steps.{Step, add_reply, seen, with_input}
use Rattle.sl_due_leases.proofs.Grants.WorksByAnswers.{led_works, settling_no_job}
use Rattle.sl_due_leases.proofs.Grants.DeltasKeep.{free_keeps, renewal_keeps}
use Rattle.sl_due_leases.proofs.Grants.OthersGoOn.{fits_begin, refusal_on, removal_of_refused_on, removal_on, said_on, sent_on, signalled_on, stopped_on}
use Rattle.sl_due_leases.proofs.Grants.WorksByDeltas.{delta_works, ended_works, other_call_works, plain_call_works, works_go_on}
use Rattle.sl_due_leases.proofs.Ways.WayFactsHeld.DeltasFit.{freed_fits, joining_fits, renewed_fits, wake_fits}
use Rattle.sl_due_leases.proofs.Ways.WayFactsHeld.HeardStands.{heard_has}
use Rattle.sl_due_leases.proofs.Ways.WayFactsHeld.LeaseNextsLeave.{IsLate}
use Rattle.sl_due_leases.proofs.Ways.WayFactsHeld.PlainWalks.{DeltaFits}
use Rattle.sl_due_leases.proofs.Ways.WayFactsHeld.UnjoinedHaveNone.{its_joining, joins_still}
use Rattle.sl_due_leases.proofs.Grants.WorksByEffects.{CallsOwned, WorksAt, call_works, not_work, reply_works, signal_works}
use Rattle.sl_due_leases.proofs.Grants.WorksByExits.{exit_works}
use Rattle.sl_due_leases.proofs.Grants.WorksByInputs.{answer_works, input_works}
use Rattle.sl_due_leases.proofs.Grants.WorksByLines.{lines_work}
use Rattle.sl_due_leases.specs.Grants.GrantLaws.{WorkFactsAreKept}
use Rattle.sl_due_leases.proofs.Holdings.HoldingFactsAreKept.{plainly_late, surveys_no_job}
use Rattle.sl_due_leases.proofs.Holdings.HoldingsByCalls.{call_added}
use Rattle.sl_due_leases.proofs.Holdings.HoldingsByEffects.{later_same, unanswered_same, waking_same}
use Rattle.sl_due_leases.specs.Holdings.Moments.{Known}
use Rattle.sl_due_facts.proofs.Jobs.RepliesComeAfter.{request_late, set_late, value_late}
use Rattle.sl_trace.specs.Jobs.{job_of_start}
use Rattle.sl_trace.specs.declared.lease.LeaseNext.TheVariants.{AnswerJob, BecomeExclusive, BecomeShared, GrantJob, Nothing as NoLease, ReadFor, WriteBlock, WriteLeader}
use Rattle.sl_trace.specs.declared.lease.LeaseNext.{LeaseNext}
use Rattle.sl_sector.specs.declared.sector.Block.{Block}
use Rattle.sl_sector.specs.declared.sector.Rec.TheVariants.{DeltaIs, RequestIs}
use Rattle.sl_trace.specs.DeltaDecisions.{delta_known, delta_of_session, next_after_free, next_after_renewal, next_in_joining, next_on_wake, own_offset}
use Rattle.sl_trace.specs.Sessions.{calls_of, generation_of, recovery_of}
use Rattle.sl_trace.specs.declared.delta.DeltaNext.{DeltaNext}
use Rattle.sl_trace.specs.declared.session.Session.{Session}
use Rattle.sl_trace.specs.Traces.{is_before_input, next_job}
use Rattle.sl_trace.specs.declared.command.Command.TheVariants.{Acquire, AddLockspace, Convert, GetLvb, HostStatus, InqLockspace, Release, ReleaseOrphan, RemLockspace, Request, RunProgram, SetKillpath, SetLvb, Status, TakeOver}
use Rattle.sl_trace.specs.declared.command.Command.{Command}
use Rattle.sl_trace.specs.declared.effects.LeaseRead.TheVariants.{OfArea, OfBlock, OfFree, OfPhase1, OfPhase2}
use Rattle.sl_trace.specs.declared.effects.LeaseStep.TheVariants.{ClearMode, FreeLeader, Phase1Read, Phase1Write, Phase2Read, Phase2Write, ReadAgain, ReadArea, ReadBeforeBlock, ReadBeforeFree, SetMode, TakeLeader}
use Rattle.sl_trace.specs.declared.effects.LeaseStep.{LeaseStep}
use Rattle.sl_trace.specs.declared.effects.Op.TheVariants.{ReadSectors, WriteRecord}
use Rattle.sl_trace.specs.declared.effects.Op.{Op}
use Rattle.sl_trace.specs.declared.effects.Purpose.TheVariants.{Lease, Leaving, Renewal, RequestWrite, SeeRequest}
use Rattle.sl_trace.specs.declared.effects.Signal.TheVariants.{Kill, Term}
use Rattle.sl_trace.specs.declared.effects.Spot.{Spot}
use Rattle.sl_trace.specs.declared.effects.Work.TheVariants.{Settling}
use Rattle.sl_trace.specs.declared.input.Answer.TheVariants.{Read}
use Rattle.sl_trace.specs.declared.input.Input.TheVariants.{Exit, Line, Number, Spawned}
use Rattle.sl_trace.specs.declared.reply.Reply.TheVariants.{BadCommand as Misread, Done, IoFault, IoTimeout, SpawnFault}
use Rattle.sl_trace.specs.declared.reply.Reply.{Reply}
use Rattle.std.proofs.Common.{refl, subst}
use Rattle.std.specs.Prelude.{List, None, Option, Some, false, if◌then◌else◌, is_some, ℕ, ◌==◌, ◌≡◌}

all_owned : (x : Step) → Known x → CallsOwned x
all_owned x k m there = k.0.facts.calls.owned m there

told : (x : Step) (j : ℕ) (r : Reply) → Known x → is_before_input r ≡ false → WorksAt (add_reply j r x)
told x j r k later = reply_works x j r (later_same x.past (entry_of x) (record { job = j; reply = r }) later) k.0.facts.works

-- ---- delta leases

fitting_works : (x : Step) (s : Session) (n : DeltaNext) → DeltaFits IsLate x s n → Known x → WorksAt (carry_delta s n x)
fitting_works x s n fits k =
    delta_works x s n (fits_begin IsLate x s n fits) (λ i r is. later_same x.past (entry_of x) (record { job = i; reply = r }) (subst (λ z. DeltaFits IsLate x s z) is fits))
    (λ r i is. subst (λ z. DeltaFits IsLate x s z) is fits) (all_owned x k) k.0.facts.works

-- ---- settling

settling : (x : Step) (s : Session) (at : Spot) (step : LeaseStep) (o : ℕ) (op : Op) → CallsOwned x → WorksAt x → WorksAt (lease_call s at Settling step o op x)
settling x s at step o op owned h =
    call_works x s.number at.path (Lease Settling step) o op owned (not_work x (call_added s.number at.path (Lease Settling step) o op x) (λ j b same. settling_no_job j step b same)) h

wrote : (x : Step) (s : Session) (at : Spot) (step : LeaseStep) (b : Block) → CallsOwned x → WorksAt x → WorksAt (write_block s at Settling step b x)
wrote x s at step b owned h =
    settling x s at step (block_place x.setting.layout at.base s.id (next_turn x.setting (seen x) s at))
    (WriteRecord (block_record x.setting.layout (next_turn x.setting (seen x) s at) s.lockspace (name_on x.setting (seen x) s at) b)) owned h

settled_works : (x : Step) (s : Session) (at : Spot) (n : LeaseNext) → CallsOwned x → WorksAt x → WorksAt (carry_lease s at Settling n x)
unfolding carry_lease
settled_works x s at NoLease owned h = h
settled_works x s at (ReadFor step) owned h = reads step where
  area : (step : LeaseStep) → WorksAt (lease_call s at Settling step at.base (ReadSectors (area_sectors x.setting.layout)) x)
  area step = settling x s at step at.base (ReadSectors (area_sectors x.setting.layout)) owned h

  blocks : (step : LeaseStep) → WorksAt (lease_call s at Settling step (block_offset x.setting.layout at.base 1) (ReadSectors (block_sectors x.setting.layout)) x)
  blocks step = settling x s at step (block_offset x.setting.layout at.base 1) (ReadSectors (block_sectors x.setting.layout)) owned h

  reads : (step : LeaseStep) → WorksAt (read_for s at Settling step x)
  reads (ReadArea name) = area (ReadArea name)
  reads ReadBeforeFree = area ReadBeforeFree
  reads (ReadAgain (OfArea name)) = area (ReadAgain (OfArea name))
  reads (ReadAgain OfFree) = area (ReadAgain OfFree)
  reads (ReadAgain OfBlock) = blocks (ReadAgain OfBlock)
  reads (ReadAgain OfPhase1) = blocks (ReadAgain OfPhase1)
  reads (ReadAgain OfPhase2) = blocks (ReadAgain OfPhase2)
  reads ReadBeforeBlock = blocks ReadBeforeBlock
  reads Phase1Write = blocks Phase1Write
  reads Phase1Read = blocks Phase1Read
  reads Phase2Write = blocks Phase2Write
  reads Phase2Read = blocks Phase2Read
  reads TakeLeader = blocks TakeLeader
  reads SetMode = blocks SetMode
  reads FreeLeader = blocks FreeLeader
  reads ClearMode = blocks ClearMode
settled_works x s at (WriteBlock step b) owned h = wrote x s at step b owned h
settled_works x s at (WriteLeader step l) owned h = settling x s at step (leader_offset at.base) (WriteRecord (leader_record x.setting.layout l)) owned h
settled_works x s at (AnswerJob r) owned h = h
settled_works x s at (GrantJob mode lver) owned h = h
settled_works x s at (BecomeShared lver l) owned h = settling x s at FreeLeader (leader_offset at.base) (WriteRecord (leader_record x.setting.layout l)) owned h
settled_works x s at (BecomeExclusive lver b) owned h = wrote x s at ClearMode b owned h

-- ---- requests

asked : (x : Step) (s : Session) (j : ℕ) (bytes : List ℕ) (c : Command) → CallsOwned x → WorksAt x → WorksAt (after_request_read s j bytes c x)
unfolding after_request_read
asked x s j bytes (Request r number force) owned h = by (request_refusal x.setting.layout s.lockspace r number force bytes) refl where
  by : (o : Option Reply) → request_refusal x.setting.layout s.lockspace r number force bytes ≡ o
      → WorksAt (elim o as (λ z. Step) [ Some why ↦ add_reply j why x | None ↦ write_request s j (owner_read x.setting.layout bytes) r number force x ])
  by (Some why) at = reply_works x j why (later_same x.past (entry_of x) (record { job = j; reply = why }) (plainly_late why (request_late x.setting.layout s.lockspace r number force bytes why at))) h
  by None at =
      other_call_works x s.number r.path (RequestWrite j (owner_read x.setting.layout bytes)) (request_offset x.setting.layout r.offset)
      (WriteRecord (RequestIs (record { force = force; host = (if number == 0 then 0 else s.id); lver = number }))) owned refl h
asked x s j bytes (AddLockspace a) owned h = h
asked x s j bytes (RemLockspace a) owned h = h
asked x s j bytes (InqLockspace a) owned h = h
asked x s j bytes (HostStatus a) owned h = h
asked x s j bytes (Acquire r shared p persistent) owned h = h
asked x s j bytes (TakeOver r shared p persistent) owned h = h
asked x s j bytes (RunProgram r shared path) owned h = h
asked x s j bytes (Release r p) owned h = h
asked x s j bytes (ReleaseOrphan r) owned h = h
asked x s j bytes (Convert r shared p) owned h = h
asked x s j bytes (GetLvb r p) owned h = h
asked x s j bytes (SetLvb r p set) owned h = h
asked x s j bytes (SetKillpath p path) owned h = h
asked x s j bytes Status owned h = h

-- ---- the whole

pub work_facts_are_kept : WorkFactsAreKept
unfolding after_value_read
work_facts_are_kept =
    record {
      kills = λ x s has due k. signalled_on WorksAt works_go_on x Kill s k.0.facts.works;
      times_out = λ x j m wake bare runs waits late k.
          refusal_on WorksAt works_go_on x j (IoTimeout m.call.number m.reading x.reading) (waking_same x.past (entry_of x) (record { job = j; reply = IoTimeout m.call.number m.reading x.reading }) wake) k.0.facts.works;
      hears = λ x number answer wake bare expected k. answer_works x number answer wake bare k.0.facts.calls k.0.facts.jobs expected k.0.facts.works;
      counts = λ x text wake bare k. input_works x (Number text) wake bare refl k.0.facts.jobs k.0.facts.works;
      exits = λ x p wake bare one k. exit_works (with_input (Exit p) x) p k.0.setting refl (input_works x (Exit p) wake bare refl k.0.facts.jobs k.0.facts.works);
      exits_as_none = λ x p wake bare none k. input_works x (Exit p) wake bare refl k.0.facts.jobs k.0.facts.works;
      starts = λ x p ok wake bare expected k. input_works x (Spawned p ok) wake bare refl k.0.facts.jobs k.0.facts.works;
      fails_to_start = λ x p input k. said_on WorksAt works_go_on (end_holdings p x) (job_of_start (seen x) p) SpawnFault refl (ended_works x p k.0.facts.works);
      signals_instead = λ x p q input stood k. signal_works x q Term k.0.facts.works;
      says_started = λ x p j input is runs k. told x j (started_reply (seen x) p) k refl;
      misreads = λ x text column wake bare says k.
          let y : Step = with_input (Line text) x in
          reply_works y (next_job x.setting (seen x)) (Misread column) (later_same y.past (entry_of y) (record { job = next_job x.setting (seen x); reply = Misread column }) refl)
          (input_works x (Line text) wake bare refl k.0.facts.jobs k.0.facts.works);
      answers = λ x text c r wake bare says is k.
          let y : Step = with_input (Line text) x in
          reply_works y (next_job x.setting (seen x)) r (unanswered_same y.past (entry_of y) (record { job = next_job x.setting (seen x); reply = r }) refl)
          (input_works x (Line text) wake bare refl k.0.facts.jobs k.0.facts.works);
      carries = λ x text c d wake bare says is more k. lines_work x text c d k wake bare says is;
      joins_on = λ x s j step m answer hears is runs k.
          fitting_works x s (next_in_joining (delta_of_session x.setting s) (generation_of (seen x) s) (calls_of (seen x) s) x.reading m step answer)
          (joining_fits IsLate x s (joins_still x s j k.0 (heard_has x s m answer hears) (its_joining x s j step m answer k.0 hears is) runs) (delta_of_session x.setting s) (generation_of (seen x) s) (calls_of (seen x) s) x.reading m step answer) k;
      ends_joining = λ x s j step m answer hears is stops k. removal_of_refused_on WorksAt works_go_on x s k.0.facts.works;
      renewed = λ x s m answer hears is k.
          fitting_works x s (next_after_renewal (is_some (recovery_of x.setting (seen x) s)) m.reading answer)
          (renewed_fits IsLate x s (is_some (recovery_of x.setting (seen x) s)) m.reading answer) k;
      freed = λ x s j m answer hears is k. fitting_works x s (next_after_free j m.call.number answer) (freed_fits IsLate x s (λ r late. late) j m.call.number answer) k;
      shown = λ x s m bytes hears is joined begins k. stopped_on WorksAt works_go_on x s None (surveys_no_job x s m (Read bytes) k hears is) k.0.facts.works;
      sees = λ x s number bytes at g has input held k. other_call_works x s.number g.path SeeRequest (request_offset x.setting.layout g.offset) (ReadSectors 1) (all_owned x k) refl k.0.facts.works;
      leads_on = λ x s work step m answer aim hears is on at k. led_works x s work step m answer aim (record { whole = k; hears = hears; purpose = is; on = on; aimed = at });
      fails = λ x s m j hears lone runs k. told x j (IoFault m.call.number) k refl;
      has_asked = λ x s m j owner hears is runs k. told x j Done k refl;
      has_set = λ x s m j hears is runs k. told x j (set_reply m) k (plainly_late (set_reply m) (set_late m));
      asks = λ x s m j bytes c hears is runs at k. asked x s j bytes c (all_owned x k) k.0.facts.works;
      tells = λ x s m j bytes hears is runs k. told x j (value_reply x.setting.layout bytes) k (plainly_late (value_reply x.setting.layout bytes) (value_late x.setting.layout bytes));
      warns = λ x s m bytes g signal hears is held own says k. sent_on WorksAt works_go_on x g.process signal k.0.facts.works;
      joins_in_time = λ x s j has wake is runs k.
          fitting_works x s (next_on_wake (delta_of_session x.setting s) x.reading (calls_of (seen x) s))
          (wake_fits IsLate x s (joins_still x s j k.0 has is runs) (delta_of_session x.setting s) x.reading (calls_of (seen x) s)) k;
      renews = λ x s has wake joined k.
          renewal_keeps WorksAt x s (delta_of_session x.setting s) x.reading (delta_known x.setting (seen x) s) (bits_due x.setting (calls_of (seen x) s) x.reading)
          (λ d. plain_call_works x s s.path Renewal (own_offset x.setting s) (WriteRecord (DeltaIs d)) refl refl (k.0.facts.works, all_owned x k)) k.0.facts.works;
      settles = λ x s at has wake active aligned none k. settled_works x s at (next_of_settling x.setting (seen x) s at) (all_owned x k) k.0.facts.works;
      parts = λ x s has joined recovers free quiet k. removal_on WorksAt works_go_on x s.lockspace k.0.facts.works;
      frees = λ x s has joined well free quiet k.
          free_keeps WorksAt x s (λ j d. plain_call_works x s s.path (Leaving j) (own_offset x.setting s) (WriteRecord (DeltaIs d)) refl refl (k.0.facts.works, all_owned x k)) k.0.facts.works;
    }
