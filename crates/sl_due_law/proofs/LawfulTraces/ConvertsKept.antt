-- What a conversion converts is held as long as its call has no answer, through each act.
use Rattle.sl_due_facts.proofs.Acts.DecisionsAreTheirs.{Of}
use Rattle.sl_due_facts.proofs.Acts.InputsKeep.{has_heard}
use Rattle.sl_due_facts.proofs.Acts.PlainActs.{line_has}
use Rattle.sl_due_facts.specs.Acts.Acts.{Has, next_of_conversion, next_of_release, next_of_settling, Acts}
use Rattle.sl_due_facts.specs.Acts.TraceSoFar.{entry_of}
use Rattle.sl_area.specs.AreaLayout.{area_sectors, block_offset, block_sectors, delta_offset, leader_offset, request_offset, value_offset}
use Rattle.sl_area.specs.AreaRecords.{leader_record}
use Rattle.sl_due.specs.DueAnswers.{set_reply}
use Rattle.sl_due.specs.DueCommands.{after_end, carry_decision, decided}
use Rattle.sl_due.specs.CarriedDelta.{carry_delta}
use Rattle.sl_due.specs.DueInputs.{end_holdings, started_reply}
use Rattle.sl_due.specs.CarriedLease.{carry_lease, lease_call, read_for, convert_for, convert_holding, for_work, grant_for, held_otherwise, next_of_lease, next_turn, with_command}
use Rattle.sl_due.specs.DueRequests.{after_request_read, after_value_read, bits_due, owner_read, request_refusal, value_reply, write_request}
use Rattle.sl_due.specs.Steps.{Step, add_reply, seen, with_input, add_end, add_grant, with_some, begin_step}
use Rattle.sl_due.specs.declared.decision.Decision.{Decision}
use Rattle.sl_due.specs.declared.decision.Decision.TheVariants.{ConvertsTo, GetsValue, GivesUp, Joins, Leaves, ReadsArea, Replies, Requests, SetsValue, Shares, TakesOver}
use Rattle.sl_due_leases.proofs.Grants.DeltasKeep.{free_keeps, renewal_keeps}
use Rattle.sl_due_leases.proofs.Grants.OthersGoOn.{fits_begin, refusal_on, removal_of_refused_on, removal_on, said_on, sent_on, signalled_on, stopped_on, delta_on, granted_on}
use Rattle.sl_due_leases.proofs.Grants.WorksByAnswers.{settling_no_job, new_spot, one_job, nobody_there}
use Rattle.sl_due_leases.proofs.Grants.WorksByInputs.{input_works}
use Rattle.sl_due_leases.proofs.Holdings.DecisionsHaveGrounds.{decisions_have_grounds}
use Rattle.sl_due_leases.proofs.Holdings.HoldingFactsAreKept.{plainly_late, surveys_no_job}
use Rattle.sl_due_leases.proofs.Holdings.HoldingsByAnswers.{Led, spot_at}
use Rattle.sl_due_leases.proofs.Holdings.HoldingsByCalls.{call_added}
use Rattle.sl_due_leases.proofs.Holdings.HoldingsByEffects.{later_same, unanswered_same, waking_same}
use Rattle.sl_due_leases.proofs.Holdings.HoldingsByLines.{base_of, no_told}
use Rattle.sl_due_leases.proofs.Holdings.LeaseCallers.{heard_session, spot_aligned}
use Rattle.sl_due_leases.proofs.Holdings.LeaseConversions.{converted, otherwise, spot_is}
use Rattle.sl_due_leases.proofs.Holdings.LeaseNexts.{IsFitNext, next_fits}
use Rattle.sl_due_leases.proofs.Holdings.LeasePlaces.{base_on, blocks_on, own_on}
use Rattle.sl_due_facts.proofs.Jobs.RepliesComeAfter.{request_late, set_late, value_late}
use Rattle.sl_due_leases.proofs.Ways.WayFactsHeld.DeltasFit.{freed_fits, joining_fits, renewed_fits, wake_fits}
use Rattle.sl_due_leases.proofs.Ways.WayFactsHeld.HeardStands.{heard_has}
use Rattle.sl_due_leases.proofs.Ways.WayFactsHeld.LeaseNextsLeave.{IsLate}
use Rattle.sl_due_leases.proofs.Ways.WayFactsHeld.PlainWalks.{DeltaFits}
use Rattle.sl_due_leases.proofs.Ways.WayFactsHeld.UnjoinedHaveNone.{its_joining, joins_still}
use Rattle.sl_due_leases.specs.Holdings.DecisionGrounds.{AsksLease, ConvertGrounds, GiveUpGrounds, HasGrounds}
use Rattle.sl_trace.specs.Ballots.{moded_block}
use Rattle.sl_trace.specs.Counts.{may_act}
use Rattle.sl_trace.specs.Jobs.{job_of_start, command_numbered, process_named, resource_named}
use Rattle.sl_trace.specs.LeaseDecisions.{lease_place}
use Rattle.sl_trace.specs.Conversions.{convert_next}
use Rattle.sl_trace.specs.Releases.{release_next}
use Rattle.sl_trace.specs.Leases.{known, is_on, lver_written, spot_of, spot_of_call, holdings_on}
use Rattle.sl_trace.specs.declared.lease.Aim.{Aim}
use Rattle.sl_trace.specs.declared.lease.LeaseNext.{LeaseNext}
use Rattle.sl_trace.specs.declared.lease.LeaseNext.TheVariants.{AnswerJob, BecomeExclusive, BecomeShared, GrantJob, ReadFor, WriteBlock, WriteLeader, Nothing}
use Rattle.sl_words.proofs.Lists.{got_inside, find_inside, kept_inside}
use Rattle.sl_sector.specs.declared.sector.Block.{Block}
use Rattle.sl_sector.specs.declared.sector.Rec.TheVariants.{DeltaIs, RequestIs, ValueIs}
use Rattle.sl_trace.specs.DeltaDecisions.{delta_known, delta_of_session, next_after_free, next_after_renewal, next_in_joining, next_on_wake, own_offset}
use Rattle.sl_trace.specs.Sessions.{calls_of, generation_of, recovery_of, sessions, holdings_of}
use Rattle.sl_trace.specs.declared.delta.DeltaNext.{DeltaNext}
use Rattle.sl_trace.specs.declared.session.Session.{Session}
use Rattle.sl_trace.specs.CommandForms.{IsCommand}
use Rattle.sl_trace.specs.Traces.{is_before_input, next_job, Setting, Submitted, Trace, end_of, job_of, new_call, same_place, spot_of_grant, holdings, Child, child_numbered, first_child, is_child, is_orphan}
use Rattle.sl_trace.specs.declared.command.Command.{Command}
use Rattle.sl_trace.specs.declared.command.Command.TheVariants.{Acquire, AddLockspace, Convert, GetLvb, HostStatus, InqLockspace, Release, ReleaseOrphan, RemLockspace, Request, RunProgram, SetKillpath, SetLvb, Status, TakeOver}
use Rattle.sl_trace.specs.declared.command.ResourceArg.{ResourceArg}
use Rattle.sl_trace.specs.declared.effects.Call.{Call}
use Rattle.sl_trace.specs.declared.effects.Grant.{Grant}
use Rattle.sl_trace.specs.declared.effects.JoinStep.TheVariants.{FirstRead}
use Rattle.sl_trace.specs.declared.effects.LeaseStep.{LeaseStep}
use Rattle.sl_trace.specs.declared.effects.LeaseStep.TheVariants.{ClearMode, FreeLeader, Phase1Read, Phase1Write, Phase2Read, Phase2Write, ReadAgain, ReadArea, ReadBeforeBlock, ReadBeforeFree, SetMode, TakeLeader}
use Rattle.sl_trace.specs.declared.effects.Mode.{Mode}
use Rattle.sl_trace.specs.declared.effects.Mode.TheVariants.{Exclusive, Shared}
use Rattle.sl_trace.specs.declared.effects.Op.{Op}
use Rattle.sl_trace.specs.declared.effects.Op.TheVariants.{ReadSectors, WriteRecord}
use Rattle.sl_trace.specs.declared.effects.Purpose.{Purpose}
use Rattle.sl_trace.specs.declared.effects.Purpose.TheVariants.{Lease, Leaving, Renewal, RequestWrite, SeeRequest, Joining, RequestRead, ValueRead, ValueWrite}
use Rattle.sl_trace.specs.declared.effects.Signal.TheVariants.{Kill, Term}
use Rattle.sl_trace.specs.declared.effects.Spot.{Spot}
use Rattle.sl_trace.specs.declared.effects.Work.{Work}
use Rattle.sl_trace.specs.declared.effects.Work.TheVariants.{Settling, ForJob}
use Rattle.sl_trace.specs.declared.input.Answer.{Answer}
use Rattle.sl_trace.specs.declared.input.Answer.TheVariants.{Read}
use Rattle.sl_trace.specs.declared.input.Input.TheVariants.{Exit, Line, Number, Spawned, Wake}
use Rattle.sl_trace.specs.declared.reply.Reply.{Reply}
use Rattle.sl_trace.specs.declared.reply.Reply.TheVariants.{BadCommand as Misread, Done, Granted, IoFault, IoTimeout, Limit as LimitReached, SpawnFault}
use Rattle.sl_trace.specs.declared.reply.Limited.TheVariants.{Turn as TurnLimit}
use Rattle.sl_words.proofs.CaseLaws.{some_value, true_is_false}
use Rattle.sl_words.proofs.WordLaws.{and_true, some_is_true}
use Rattle.std.proofs.Common.{refl, subst, ap, inl, sym, ◌∙◌, arith, inr}
use Rattle.std.proofs.lemmas.Bool.{leb-true, eqb-true}
use Rattle.std.specs.Option.{option_map_or}
use Rattle.std.specs.Prelude.{List, None, Option, Some, false, if◌then◌else◌, is_some, ℕ, ◌==◌, ◌≡◌, Bool, Contains, [], length, nat_le, true, ◌%◌, ◌&&◌, ◌||◌, ◌∷◌, ◌≤◌, Ok, not, ◌<◌, ◌⊎◌}
use Rattle.sl_due_leases.proofs.Grants.WorksByLines.{Lined, nobody_waits, held_before}
use Rattle.sl_due_leases.proofs.Grants.WorksByDeltas.{is_lease_purpose}
use Rattle.sl_trace.specs.CountLimits.{most_processes}
use Rattle.sl_words.specs.Words.{some_is}
use Rattle.sl_due_law.proofs.LawfulTraces.CallsSuit.{line_reads}
use Rattle.sl_due_law.proofs.LawfulTraces.ConvertsHold.{ConvertsNow, answer_converting, call_converting, converting_go_on, end_converting, exit_converting, failed_converting, grant_converting, holds_as, holds_on, holds_seen, input_converting, other_call_converting, plain_call_converting, reply_converting}
use Rattle.sl_due_law.proofs.LawfulTraces.HeardBefore.{HeardBefore, command_past, heard_before, ran_past}
use Rattle.sl_due_law.proofs.Recovery.StopsBegin.{Says, IsDenial, begun_says, with_said}
use Rattle.sl_due.specs.DueRecovery.{begin_recoveries}
use Rattle.sl_due_law.specs.LawfulTraces.JobLore.{Converting, HoldsThere, JobLore}
use Rattle.sl_due_law.specs.LawfulTraces.CarriedFacts.{Holds, Kept}
use Rattle.sl_due_facts.proofs.Acts.Pairs.Decisions.{conversion_is, release_is}
use Rattle.sl_due_leases.proofs.Ways.WayFactsHeld.PlacesStand.{id_in_range}
use Rattle.sl_due_leases.specs.Ways.Nexts.{next_place, next_record}
use Rattle.sl_trace.specs.declared.effects.LeaseRead.TheVariants.{OfArea, OfBlock, OfFree, OfPhase1, OfPhase2}

-- ---- what a step rests on

pub record KnowsConverting (x : Step) : Type 0 where
  pub known : Kept x
  pub past : JobLore x.setting x.past
  pub so_far : ConvertsNow x

other_work : (p : Purpose) → is_lease_purpose p ≡ false → (j : ℕ) (step : LeaseStep) → p ≡ Lease (ForJob j) step → ⊥
other_work p other j step is = true_is_false (sym (ap (λ q. is_lease_purpose q) is) ∙ other)

told : (x : Step) (j : ℕ) (r : Reply) → is_before_input r ≡ false → ConvertsNow x → ConvertsNow (add_reply j r x)
told x j r later h = reply_converting x j r (later_same x.past (entry_of x) (record { job = j; reply = r }) later) h

abbrev is_convert : Command → Bool
is_convert (Convert r shared p) = true
is_convert c = false

-- ---- settling

settling : (x : Step) (s : Session) (at : Spot) (step : LeaseStep) (o : ℕ) (op : Op) → ConvertsNow x → ConvertsNow (lease_call s at Settling step o op x)
settling x s at step o op h = other_call_converting x s.number at.path (Lease Settling step) o op (λ j b same. settling_no_job j step b same) h

settled : (x : Step) (s : Session) (at : Spot) (n : LeaseNext) → ConvertsNow x → ConvertsNow (carry_lease s at Settling n x)
unfolding carry_lease
settled x s at Nothing h = h
settled x s at (ReadFor step) h = reads step where
  area : (step : LeaseStep) → ConvertsNow (lease_call s at Settling step at.base (ReadSectors (area_sectors x.setting.layout)) x)
  area step = settling x s at step at.base (ReadSectors (area_sectors x.setting.layout)) h

  blocks : (step : LeaseStep) → ConvertsNow (lease_call s at Settling step (block_offset x.setting.layout at.base 1) (ReadSectors (block_sectors x.setting.layout)) x)
  blocks step = settling x s at step (block_offset x.setting.layout at.base 1) (ReadSectors (block_sectors x.setting.layout)) h

  reads : (step : LeaseStep) → ConvertsNow (read_for s at Settling step x)
  reads (ReadArea name) = area (ReadArea name)
  reads ReadBeforeFree = area ReadBeforeFree
  reads ReadBeforeBlock = blocks ReadBeforeBlock
  reads (ReadAgain (OfArea name)) = area (ReadAgain (OfArea name))
  reads (ReadAgain OfFree) = area (ReadAgain OfFree)
  reads (ReadAgain OfBlock) = blocks (ReadAgain OfBlock)
  reads (ReadAgain OfPhase1) = blocks (ReadAgain OfPhase1)
  reads (ReadAgain OfPhase2) = blocks (ReadAgain OfPhase2)
  reads Phase1Write = blocks Phase1Write
  reads Phase1Read = blocks Phase1Read
  reads Phase2Write = blocks Phase2Write
  reads Phase2Read = blocks Phase2Read
  reads TakeLeader = blocks TakeLeader
  reads SetMode = blocks SetMode
  reads FreeLeader = blocks FreeLeader
  reads ClearMode = blocks ClearMode
settled x s at (WriteBlock step b) h = settling x s at step _ _ h
settled x s at (WriteLeader step l) h = settling x s at step _ _ h
settled x s at (AnswerJob r) h = h
settled x s at (GrantJob mode lver) h = h
settled x s at (BecomeShared lver l) h = settling x s at FreeLeader _ _ h
settled x s at (BecomeExclusive lver b) h = settling x s at ClearMode _ _ h

-- ---- a job's lease

-- At a spot where its process holds, if it converts.
HoldsAt : Step → Session → Spot → ℕ → Type 0
HoldsAt x s at j =
    (c : Call) (r : ResourceArg) (shared : Bool) (p : ℕ) → c.session ≡ s.number → is_on x.setting.layout at c ≡ true → command_numbered x.setting (seen x) j ≡ Some (Convert r shared p) →
    HoldsThere x.setting (seen x) (new_call (length x.past) x.reading c) p

job_call : (x : Step) (s : Session) (at : Spot) (j : ℕ) (step : LeaseStep) (o : ℕ) (op : Op)
    → ((c : Call) (r : ResourceArg) (shared : Bool) (p : ℕ) → c.session ≡ s.number → is_on x.setting.layout at c ≡ true → command_numbered x.setting (seen x) j ≡ Some (Convert r shared p)
    → HoldsThere x.setting (seen x) (new_call (length x.past) x.reading c) p) → is_on x.setting.layout at (call_added s.number at.path (Lease (ForJob j) step) o op x) ≡ true → ConvertsNow x
    → ConvertsNow (lease_call s at (ForJob j) step o op x)
job_call x s at j step o op holds on h =
    call_converting x s.number at.path (Lease (ForJob j) step) o op
    (λ i b r shared p is runs named.
    holds (call_added s.number at.path (Lease (ForJob j) step) o op x) r shared p refl on (subst (λ n. command_numbered x.setting (seen x) n ≡ Some (Convert r shared p)) (sym (one_job j i step b is).0) named)) h

-- ---- an answer to a lease's call

-- Where the conversion's process holds when its call is answered.
heard_holds : (x : Step) (s : Session) (j : ℕ) (step : LeaseStep) (m : Submitted) (answer : Answer) (aim : Aim) → KnowsConverting x → Led x s (ForJob j) step m answer aim
    → (c : Call) (r : ResourceArg) (shared : Bool) (p : ℕ) → c.session ≡ s.number → is_on x.setting.layout (spot_at x m) c ≡ true → command_numbered x.setting (seen x) j ≡ Some (Convert r shared p)
    → HoldsThere x.setting (seen x) (new_call (length x.past) x.reading c) p
heard_holds x s j step m answer aim k l c r shared p mine on named =
    let b : HeardBefore x m = heard_before x s m answer k.known l.hears in
    let was : HoldsThere x.setting x.past b.before p =
    k.past.converting b.before j step r shared p b.there b.unmet (ap (λ (d : Call). d.purpose) b.same ∙ l.purpose) (ran_past x.past (entry_of x) j l.on) (b.command j (Convert r shared p) (ap (λ q. job_of q) l.purpose) named)
    in
    holds_as x.setting (seen x) m (new_call (length x.past) x.reading c) p (heard_session x s m answer l.hears ∙ sym mine)
    (sym (new_spot x.setting (spot_at x m) c l.whole.0.setting (spot_aligned x.setting.layout m) on)) (holds_on x b.before m p b.same (held_before x l.hears.unended l.hears.ungranted) was)

-- A conversion that is done: what ends and begins is of nobody's work.
become : (x : Step) (s : Session) (j : ℕ) (step : LeaseStep) (m : Submitted) (answer : Answer) (aim : Aim) → Led x s (ForJob j) step m answer aim → ConvertsNow x → (mode : Mode) (lver : ℕ)
    → ConvertsNow (for_work (ForJob j) (λ k. with_command k (λ c. convert_for s (spot_at x m) k c mode lver)) x)
become x s j step m answer aim l h mode lver = by_command (command_numbered x.setting (seen x) j) where
  found : (p : ℕ) (o : Option Grant) → held_otherwise (seen x) s (spot_at x m) p mode ≡ o → ConvertsNow (with_some o (convert_holding j mode lver) x)
  found p None is = h
  found p (Some g) is =
      let w = otherwise x s (spot_at x m) p mode g is in
      let y : Step = add_end (end_of g) x in
      told (add_grant (converted g mode lver) y) j (Granted lver) refl
      (grant_converting y (converted g mode lver) (end_converting x g (nobody_there x s (ForJob j) step m answer aim l g (spot_is g (spot_at x m) w.2)) h))

  by_process : (o : Option ℕ) → ConvertsNow (with_some o (λ p y. with_some (held_otherwise (seen y) s (spot_at x m) p mode) (convert_holding j mode lver) y) x)
  by_process None = h
  by_process (Some p) = found p (held_otherwise (seen x) s (spot_at x m) p mode) refl

  by_command : (o : Option Command) → ConvertsNow (with_some o (λ c. convert_for s (spot_at x m) j c mode lver) x)
  by_command None = h
  by_command (Some c) = by_process (process_named c)

led : (x : Step) (s : Session) (work : Work) (step : LeaseStep) (m : Submitted) (answer : Answer) (aim : Aim) → KnowsConverting x → Led x s work step m answer aim
    → ConvertsNow (carry_lease s (spot_at x m) work (next_of_lease x.setting (seen x) s (spot_at x m) aim m step answer) x)
unfolding carry_lease
led x s Settling step m answer aim k l = settled x s (spot_at x m) (next_of_lease x.setting (seen x) s (spot_at x m) aim m step answer) k.so_far
led x s (ForJob j) step m answer aim k l =
    by (next_of_lease x.setting (seen x) s (spot_at x m) aim m step answer)
    (next_fits (lease_place x.setting s) (known x.setting (seen x) s (spot_at x m)) aim m.call.number (lver_written m) step answer) where
      st : Setting
      st = x.setting

      id : (1 ≤ s.id) × (s.id ≤ st.layout.hosts)
      id = id_in_range st l.whole.0.setting (seen x) s (got_inside (sessions st (seen x)) s.number s (has_heard x s m answer l.hears))

      h : ConvertsNow x
      h = k.so_far

      blocks : (at : LeaseStep) → ConvertsNow (lease_call s (spot_at x m) (ForJob j) at (block_offset st.layout (spot_at x m).base 1) (ReadSectors (block_sectors st.layout)) x)
      blocks at =
          job_call x s (spot_at x m) j at (block_offset st.layout (spot_at x m).base 1) (ReadSectors (block_sectors st.layout)) (heard_holds x s j step m answer aim k l)
          (blocks_on st (spot_at x m) s.id (call_added s.number (spot_at x m).path (Lease (ForJob j) at) (block_offset st.layout (spot_at x m).base 1) (ReadSectors (block_sectors st.layout)) x) l.whole.0.setting id refl refl) h

      area : (at : LeaseStep) → ConvertsNow (lease_call s (spot_at x m) (ForJob j) at (spot_at x m).base (ReadSectors (area_sectors st.layout)) x)
      area at =
          job_call x s (spot_at x m) j at (spot_at x m).base (ReadSectors (area_sectors st.layout)) (heard_holds x s j step m answer aim k l)
          (base_on st (spot_at x m) (call_added s.number (spot_at x m).path (Lease (ForJob j) at) (spot_at x m).base (ReadSectors (area_sectors st.layout)) x) l.whole.0.setting refl refl) h

      reads : (at : LeaseStep) → ConvertsNow (read_for s (spot_at x m) (ForJob j) at x)
      reads (ReadArea name) = area (ReadArea name)
      reads ReadBeforeFree = area ReadBeforeFree
      reads ReadBeforeBlock = blocks ReadBeforeBlock
      reads (ReadAgain (OfArea name)) = area (ReadAgain (OfArea name))
      reads (ReadAgain OfFree) = area (ReadAgain OfFree)
      reads (ReadAgain OfBlock) = blocks (ReadAgain OfBlock)
      reads (ReadAgain OfPhase1) = blocks (ReadAgain OfPhase1)
      reads (ReadAgain OfPhase2) = blocks (ReadAgain OfPhase2)
      reads Phase1Write = blocks Phase1Write
      reads Phase1Read = blocks Phase1Read
      reads Phase2Write = blocks Phase2Write
      reads Phase2Read = blocks Phase2Read
      reads TakeLeader = blocks TakeLeader
      reads SetMode = blocks SetMode
      reads FreeLeader = blocks FreeLeader
      reads ClearMode = blocks ClearMode

      granted : (mode : Mode) (lver : ℕ) (o : Option Command) → ConvertsNow (with_some o (λ c. grant_for s j c mode lver) x)
      granted mode lver None = h
      granted mode lver (Some c) = granted_on ConvertsNow converting_go_on grant_converting x s j c mode lver h

      by : (next : LeaseNext) → IsFitNext (known x.setting (seen x) s (spot_at x m)) aim (lver_written m) step answer next → ConvertsNow (carry_lease s (spot_at x m) (ForJob j) next x)
      by Nothing fit = h
      by (ReadFor at) fit = reads at
      by (WriteBlock at b) fit =
          let place : ℕ = next_place st (seen x) s (spot_at x m) in
          let op : Op = WriteRecord (next_record st (seen x) s (spot_at x m) b) in
          job_call x s (spot_at x m) j at place op (heard_holds x s j step m answer aim k l)
          (own_on st (spot_at x m) s.id (next_turn st (seen x) s (spot_at x m)) (call_added s.number (spot_at x m).path (Lease (ForJob j) at) place op x) l.whole.0.setting id refl refl) h
      by (WriteLeader at v) fit =
          job_call x s (spot_at x m) j at (leader_offset (spot_at x m).base) (WriteRecord (leader_record st.layout v)) (heard_holds x s j step m answer aim k l)
          (base_on st (spot_at x m) (call_added s.number (spot_at x m).path (Lease (ForJob j) at) (leader_offset (spot_at x m).base) (WriteRecord (leader_record st.layout v)) x) l.whole.0.setting refl refl) h
      by (AnswerJob r) fit = told x j r fit h
      by (GrantJob mode lver) fit = granted mode lver (command_numbered x.setting (seen x) j)
      by (BecomeShared lver v) fit =
          let y : Step = for_work (ForJob j) (λ i. with_command i (λ c. convert_for s (spot_at x m) i c Shared lver)) x in
          settling y s (spot_at x m) FreeLeader _ _ (become x s j step m answer aim l h Shared lver)
      by (BecomeExclusive lver b) fit =
          let y : Step = for_work (ForJob j) (λ i. with_command i (λ c. convert_for s (spot_at x m) i c Exclusive lver)) x in
          settling y s (spot_at x m) ClearMode _ _ (become x s j step m answer aim l h Exclusive lver)

-- ---- lines

-- No other command's work is a conversion's.
no_convert : (x : Step) (text : List ℕ) (c : Command) → x.input ≡ Wake → x.setting.read text ≡ Ok c → is_convert c ≡ false → (r : ResourceArg) (shared : Bool) (p : ℕ)
    → command_numbered x.setting (seen (with_input (Line text) x)) (next_job x.setting (seen x)) ≡ Some (Convert r shared p) → ⊥
no_convert x text c wake says other r shared p named =
    true_is_false (sym (ap (λ z. is_convert z) (some_value c (Convert r shared p) (sym (line_reads x text c wake says) ∙ named))) ∙ other)

low : (p : ℕ) → p ≤ most_processes → p < first_child
low p le = omega (arith, le)

-- Who may act was started, if it is a child.
was_started : (t : Trace) (p : ℕ) → may_act t p ≡ true → (p < first_child) ⊎ ((k : Child) × (child_numbered t p ≡ Some k) × (k.answer ≡ Some true))
was_started t p may = by (nat_le p most_processes) refl may where
  by : (b : Bool) → nat_le p most_processes ≡ b → (b || is_child t p) ≡ true → (p < first_child) ⊎ ((k : Child) × (child_numbered t p ≡ Some k) × (k.answer ≡ Some true))
  by true is on = inl (low p (leb-true p most_processes is))
  by false is on =
      let k = some_is_true (λ (c : Child). some_is (λ ok. ok) c.answer && not c.exited) (child_numbered t p) on in
      let a = some_is_true (λ (ok : Bool). ok) k.0.answer (and_true (some_is (λ ok. ok) k.0.answer) (not k.0.exited) k.2).0 in
      inr (k.0, k.1, a.1 ∙ ap (λ b. Some b) a.2)

conversion : (x : Step) (text : List ℕ) (c : Command) (s : Session) (r : ResourceArg) (mode : Mode) → Lined x text c s → ConvertGrounds x.setting (seen x) c s r mode → ConvertsNow (with_input (Line text) x)
    → ConvertsNow (carry_lease s (spot_of r) (ForJob (next_job x.setting (seen x))) (next_of_conversion x.setting (seen (with_input (Line text) x)) s (spot_of r) mode r.name) (with_input (Line text) x))
unfolding carry_lease
conversion x text c s r mode l g h =
    conversion_is (λ n. ConvertsNow (carry_lease s (spot_of r) (ForJob (next_job x.setting (seen x))) n (with_input (Line text) x))) x.setting (seen (with_input (Line text) x)) s (spot_of r) mode r.name
    (λ fits. by mode) (λ paired over writes. told (with_input (Line text) x) (next_job x.setting (seen x)) (LimitReached TurnLimit) refl h) where
      st : Setting
      st = x.setting

      at : Spot
      at = spot_of r

      y : Step
      y = with_input (Line text) x

      j : ℕ
      j = next_job x.setting (seen x)

      id : (1 ≤ s.id) × (s.id ≤ st.layout.hosts)
      id = id_in_range st l.known.0.setting (seen y) s (got_inside (sessions st (seen y)) s.number s l.has)

      base : (spot_of r).base % x.setting.layout.area ≡ 0
      base = base_of st r (subst (λ k. IsCommand st.layout k) g.command l.command).0

      f : Contains (holdings_on (seen x) s (spot_of r)) g.holding × ((g.holding.process == g.process && true) ≡ true)
      f = find_inside (λ (k : Grant). k.process == g.process && true) (holdings_on (seen x) s at) g.holding g.held

      on : Contains (holdings_of (seen x) s) g.holding × (same_place g.holding.path g.holding.offset r.path r.offset ≡ true)
      on = kept_inside (λ (k : Grant). same_place k.path k.offset r.path r.offset) (holdings_of (seen x) s) g.holding f.0

      mine : Contains (holdings (seen x)) g.holding × ((g.holding.session == s.number) ≡ true)
      mine = kept_inside (λ (k : Grant). k.session == s.number) (holdings (seen x)) g.holding on.0

      holds : (d : Call) (a : ResourceArg) (shared : Bool) (p : ℕ) → d.session ≡ s.number → is_on x.setting.layout (spot_of r) d ≡ true → command_numbered x.setting (seen (with_input (Line text) x)) (next_job x.setting (seen x)) ≡ Some (Convert a shared p)
          → HoldsThere x.setting (seen (with_input (Line text) x)) (new_call (length x.past) x.reading d) p
      holds d a shared p its place named =
          let same : g.process ≡ p =
          some_value g.process p (ap (λ z. process_named z) (sym g.command ∙ some_value c (Convert a shared p) (sym (line_reads x text c l.wake l.says) ∙ named))) in
          let spot : spot_of_call st.layout (new_call (length x.past) x.reading d) ≡ at = new_spot st at d l.known.0.setting base place in
          holds_seen x (Line text) (new_call (length x.past) x.reading d) p l.wake (record {
            holding = g.holding;
            held = mine.0;
            mine = eqb-true g.holding.session s.number mine.1 ∙ sym its;
            there = subst (λ (z : Spot). same_place g.holding.path g.holding.offset z.path z.base ≡ true) (sym spot) on.1;
            its = eqb-true g.holding.process g.process (and_true (g.holding.process == g.process) true f.1).0 ∙ same;
            started = subst (λ n. (n < first_child) ⊎ ((k : Child) × (child_numbered (seen x) n ≡ Some k) × (k.answer ≡ Some true))) same (was_started (seen x) g.process g.acts);
          })

      by : (mode : Mode) → ConvertsNow (carry_lease s (spot_of r) (ForJob (next_job x.setting (seen x))) (convert_next (known x.setting (seen (with_input (Line text) x)) s (spot_of r)) mode r.name) (with_input (Line text) x))
      by Exclusive =
          job_call y s at j (ReadArea r.name) at.base (ReadSectors (area_sectors st.layout)) holds
          (base_on st at (call_added s.number at.path (Lease (ForJob j) (ReadArea r.name)) at.base (ReadSectors (area_sectors st.layout)) y) l.known.0.setting refl refl) h
      by Shared = sets (known x.setting (seen y) s at).own where
        sets : (o : Option Block)
            → ConvertsNow (carry_lease s (spot_of r) (ForJob (next_job x.setting (seen x))) (option_map_or (λ own. WriteBlock SetMode (moded_block own true (known x.setting (seen (with_input (Line text) x)) s (spot_of r)).self.generation)) o Nothing) (with_input (Line text) x))
        sets None = h
        sets (Some own) =
            let b : Block = moded_block own true (known x.setting (seen y) s at).self.generation in
            let place : ℕ = next_place st (seen y) s at in
            let op : Op = WriteRecord (next_record st (seen y) s at b) in
            job_call y s at j SetMode place op holds
            (own_on st at s.id (next_turn st (seen y) s at) (call_added s.number at.path (Lease (ForJob j) SetMode) place op y) l.known.0.setting id refl refl) h

-- A release ends what nobody works on.
giving : (x : Step) (text : List ℕ) (c : Command) (s : Session) (e : Grant) → Lined x text c s → GiveUpGrounds x.setting (seen x) c s e → ConvertsNow (with_input (Line text) x)
    → ConvertsNow (after_end s (spot_of_grant e) (next_job x.setting (seen x)) e (add_end (end_of e) (with_input (Line text) x)))
unfolding after_end carry_lease
giving x text c s e l g h = by (holdings_on (seen z) s (spot_of_grant e)) where
  y : Step
  y = with_input (Line text) x

  z : Step
  z = add_end (end_of e) y

  j : ℕ
  j = next_job x.setting (seen x)

  named : resource_named c ≡ Some g.resource
  named = by_release g.releases where
    by_release : ((p : ℕ) × (c ≡ Release g.resource p) × (e.process ≡ p)) ⊎ ((c ≡ ReleaseOrphan g.resource) × (is_orphan e ≡ true)) → resource_named c ≡ Some g.resource
    by_release (inl a) = ap (λ k. resource_named k) a.1
    by_release (inr a) = ap (λ k. resource_named k) a.0

  other : is_convert c ≡ false
  other = by_release g.releases where
    by_release : ((p : ℕ) × (c ≡ Release g.resource p) × (e.process ≡ p)) ⊎ ((c ≡ ReleaseOrphan g.resource) × (is_orphan e ≡ true)) → is_convert c ≡ false
    by_release (inl a) = ap (λ k. is_convert k) a.1
    by_release (inr a) = ap (λ k. is_convert k) a.0

  on : same_place e.path e.offset (spot_of g.resource).path (spot_of g.resource).base ≡ true
  on = (kept_inside (λ (k : Grant). same_place k.path k.offset (spot_of g.resource).path (spot_of g.resource).base) (holdings_of (seen x) s) e g.held).1

  ended : ConvertsNow (add_end (end_of e) (with_input (Line text) x))
  ended = end_converting y e (nobody_waits x text c s g.resource g.resource l g.ready named named e (spot_is e (spot_of g.resource) on)) h

  writes : (step : LeaseStep) (o : ℕ) (op : Op) → ConvertsNow (lease_call s (spot_of_grant e) (ForJob (next_job x.setting (seen x))) step o op (add_end (end_of e) (with_input (Line text) x)))
  writes step o op =
      call_converting z s.number (spot_of_grant e).path (Lease (ForJob j) step) o op
      (λ i b r shared p is runs at.
      absurd (no_convert x text c l.wake l.says other r shared p (subst (λ n. command_numbered x.setting (seen y) n ≡ Some (Convert r shared p)) (sym (one_job j i step b is).0) at))) ended

  clears : (o : Option Block) → ConvertsNow (carry_lease s (spot_of_grant e) (ForJob (next_job x.setting (seen x))) (option_map_or (λ own. WriteBlock ClearMode (moded_block own false 0)) o Nothing) (add_end (end_of e) (with_input (Line text) x)))
  clears None = ended
  clears (Some own) = writes ClearMode _ _

  mode : (m : Mode) → ConvertsNow (carry_lease s (spot_of_grant e) (ForJob (next_job x.setting (seen x))) (release_next (lease_place x.setting s) (known x.setting (seen (add_end (end_of e) (with_input (Line text) x))) s (spot_of_grant e)) m e.lver) (add_end (end_of e) (with_input (Line text) x)))
  mode Exclusive = writes FreeLeader _ _
  mode Shared = clears (known x.setting (seen z) s (spot_of_grant e)).own

  by : (hs : List Grant)
      → ConvertsNow (elim hs as (λ w. Step) [
        | k ∷ rest ↦ add_reply (next_job x.setting (seen x)) Done (add_end (end_of e) (with_input (Line text) x))
        | [] ↦ carry_lease s (spot_of_grant e) (ForJob (next_job x.setting (seen x))) (next_of_release x.setting (seen (add_end (end_of e) (with_input (Line text) x))) s (spot_of_grant e) e) (add_end (end_of e) (with_input (Line text) x))
      ])
  by (k ∷ rest) = told z j Done refl ended
  by [] =
      release_is (λ n. ConvertsNow (carry_lease s (spot_of_grant e) (ForJob (next_job x.setting (seen x))) n (add_end (end_of e) (with_input (Line text) x))))
      x.setting (seen (add_end (end_of e) (with_input (Line text) x))) s (spot_of_grant e) e (λ fits. mode e.mode) (λ paired over writes. told z j (LimitReached TurnLimit) refl ended)

acquires_no_convert : (c : Command) (r : ResourceArg) → AsksLease c r → is_convert c ≡ false
acquires_no_convert c r (inl a) = ap (λ z. is_convert z) a.3
acquires_no_convert c r (inr a) = ap (λ z. is_convert z) a.2

lined_converting : (x : Step) (text : List ℕ) (c : Command) (d : Decision) → KnowsConverting x → x.input ≡ Wake → x.effects.calls ≡ [] → x.setting.read text ≡ Ok c → decided x.setting (seen x) x.reading c ≡ d
    → ConvertsNow (carry_decision (next_job x.setting (seen x)) c d (with_input (Line text) x))
unfolding carry_decision
lined_converting x text c d k wake bare says at =
    by d (subst (λ z. HasGrounds x.setting (seen x) c z) at (decisions_have_grounds x.setting (seen x) x.reading c)) (subst (λ z. Of (Has y) z) at (line_has x text c bare)) where
      y : Step
      y = with_input (Line text) x

      j : ℕ
      j = next_job x.setting (seen x)

      h : ConvertsNow (with_input (Line text) x)
      h = input_converting x (Line text) wake bare refl k.known.known.0.facts.jobs k.so_far

      lined : (s : Session) → Has (with_input (Line text) x) s → Lined x text c s
      lined s has =
          record { known = k.known.known; wake = wake; bare = bare; says = says; has = has; command = k.known.known.0.setting.reads text c says; works = input_works x (Line text) wake bare refl k.known.known.0.facts.jobs k.known.known.0.facts.works }

      by : (d : Decision) → HasGrounds x.setting (seen x) c d → Of (Has (with_input (Line text) x)) d → ConvertsNow (carry_decision (next_job x.setting (seen x)) c d (with_input (Line text) x))
      by (Replies r) g has = h
      by (Joins n a) g has = other_call_converting y n a.path (Joining j FirstRead) (delta_offset x.setting.layout a.offset a.id) (ReadSectors 1) (other_work (Joining j FirstRead) refl) h
      by (Leaves s) g has = stopped_on ConvertsNow converting_go_on y s (Some j) (no_told x.past text) h
      by (ReadsArea s r) g has =
          call_converting y s.number r.path (Lease (ForJob j) (ReadArea r.name)) r.offset (ReadSectors (area_sectors x.setting.layout))
          (λ i b a shared p is runs named.
          absurd (no_convert x text c wake says (acquires_no_convert c r g.acquires.asks) a shared p (subst (λ n. command_numbered x.setting (seen y) n ≡ Some (Convert a shared p)) (sym (one_job j i (ReadArea r.name) b is).0) named))) h
      by (Shares s lver) g has = granted_on ConvertsNow converting_go_on grant_converting y s j c Shared lver h
      by (GivesUp s e) g has = giving x text c s e (lined s has) g h
      by (TakesOver s e) g has =
          let on = kept_inside (λ (v : Grant). same_place v.path v.offset (spot_of g.resource).path (spot_of g.resource).base) (holdings_of (seen x) s) e (find_inside is_orphan (holdings_on (seen x) s (spot_of g.resource)) e g.orphan).0 in
          let named : resource_named c ≡ Some g.resource = ap (λ z. resource_named z) g.command in
          granted_on ConvertsNow converting_go_on grant_converting (add_end (end_of e) y) s j c e.mode e.lver
          (end_converting y e (nobody_waits x text c s g.resource g.resource (lined s has) g.ready named named e (spot_is e (spot_of g.resource) on.1)) h)
      by (ConvertsTo s r mode) g has = conversion x text c s r mode (lined s has) g h
      by (Requests s r) g has = other_call_converting y s.number r.path (RequestRead j) r.offset (ReadSectors 2) (other_work (RequestRead j) refl) h
      by (SetsValue s spot v) g has = other_call_converting y s.number spot.path (ValueWrite j) (value_offset x.setting.layout spot.base) (WriteRecord (ValueIs v)) (other_work (ValueWrite j) refl) h
      by (GetsValue s spot) g has = other_call_converting y s.number spot.path (ValueRead j) (value_offset x.setting.layout spot.base) (ReadSectors 1) (other_work (ValueRead j) refl) h

-- ---- requests

asked : (x : Step) (s : Session) (j : ℕ) (bytes : List ℕ) (c : Command) → ConvertsNow x → ConvertsNow (after_request_read s j bytes c x)
unfolding after_request_read
asked x s j bytes (Request r number force) h = by (request_refusal x.setting.layout s.lockspace r number force bytes) refl where
  by : (o : Option Reply) → request_refusal x.setting.layout s.lockspace r number force bytes ≡ o
      → ConvertsNow (elim o as (λ z. Step) [ Some why ↦ add_reply j why x | None ↦ write_request s j (owner_read x.setting.layout bytes) r number force x ])
  by (Some why) at = told x j why (plainly_late why (request_late x.setting.layout s.lockspace r number force bytes why at)) h
  by None at =
      other_call_converting x s.number r.path (RequestWrite j (owner_read x.setting.layout bytes)) (request_offset x.setting.layout r.offset)
      (WriteRecord (RequestIs (record { force = force; host = (if number == 0 then 0 else s.id); lver = number }))) (other_work (RequestWrite j (owner_read x.setting.layout bytes)) refl) h
asked x s j bytes (AddLockspace a) h = h
asked x s j bytes (RemLockspace a) h = h
asked x s j bytes (InqLockspace a) h = h
asked x s j bytes (HostStatus a) h = h
asked x s j bytes (Acquire r shared p persistent) h = h
asked x s j bytes (TakeOver r shared p persistent) h = h
asked x s j bytes (RunProgram r shared path) h = h
asked x s j bytes (Release r p) h = h
asked x s j bytes (ReleaseOrphan r) h = h
asked x s j bytes (Convert r shared p) h = h
asked x s j bytes (GetLvb r p) h = h
asked x s j bytes (SetLvb r p set) h = h
asked x s j bytes (SetKillpath p path) h = h
asked x s j bytes Status h = h

-- ---- all acts

fitting : (x : Step) (s : Session) (n : DeltaNext) → DeltaFits IsLate x s n → ConvertsNow x → ConvertsNow (carry_delta s n x)
fitting x s n fits h =
    delta_on ConvertsNow ConvertsNow converting_go_on plain_call_converting (λ z k. k) x s n (fits_begin IsLate x s n fits)
    (λ i r is. later_same x.past (entry_of x) (record { job = i; reply = r }) (subst (λ z. DeltaFits IsLate x s z) is fits)) (λ r i is. subst (λ z. DeltaFits IsLate x s z) is fits) h

pub conversions_hold : Acts KnowsConverting ConvertsNow
unfolding after_value_read
conversions_hold =
    record {
      kills = λ x s has due k. signalled_on ConvertsNow converting_go_on x Kill s k.so_far;
      times_out = λ x j m wake bare runs waits late k.
          refusal_on ConvertsNow converting_go_on x j (IoTimeout m.call.number m.reading x.reading) (waking_same x.past (entry_of x) (record { job = j; reply = IoTimeout m.call.number m.reading x.reading }) wake) k.so_far;
      hears = λ x number answer wake bare expected k. answer_converting x number answer wake bare k.known.known.0.facts.jobs k.so_far;
      counts = λ x text wake bare k. input_converting x (Number text) wake bare refl k.known.known.0.facts.jobs k.so_far;
      exits = λ x p wake bare one k. exit_converting x p wake bare k.known.known.0.facts.jobs k.so_far;
      exits_as_none = λ x p wake bare none k. input_converting x (Exit p) wake bare refl k.known.known.0.facts.jobs k.so_far;
      starts = λ x p ok wake bare expected k. input_converting x (Spawned p ok) wake bare refl k.known.known.0.facts.jobs k.so_far;
      fails_to_start = λ x p input k.
          said_on ConvertsNow converting_go_on (end_holdings p x) (job_of_start (seen x) p) SpawnFault refl (failed_converting x p input k.known.known.0.orderly.is_trace.0 k.known.known.0.facts.values.above k.so_far);
      signals_instead = λ x p q input stood k. converting_go_on.signals x q Term k.so_far;
      says_started = λ x p j input is runs k. told x j (started_reply (seen x) p) refl k.so_far;
      misreads = λ x text column wake bare says k.
          told (with_input (Line text) x) (next_job x.setting (seen x)) (Misread column) refl (input_converting x (Line text) wake bare refl k.known.known.0.facts.jobs k.so_far);
      answers = λ x text c r wake bare says is k.
          let y : Step = with_input (Line text) x in
          reply_converting y (next_job x.setting (seen x)) r (unanswered_same y.past (entry_of y) (record { job = next_job x.setting (seen x); reply = r }) refl)
          (input_converting x (Line text) wake bare refl k.known.known.0.facts.jobs k.so_far);
      carries = λ x text c d wake bare says is more k. lined_converting x text c d k wake bare says is;
      joins_on = λ x s j step m answer hears is runs k.
          fitting x s (next_in_joining (delta_of_session x.setting s) (generation_of (seen x) s) (calls_of (seen x) s) x.reading m step answer)
          (joining_fits IsLate x s (joins_still x s j k.known.known.0 (heard_has x s m answer hears) (its_joining x s j step m answer k.known.known.0 hears is) runs) (delta_of_session x.setting s) (generation_of (seen x) s) (calls_of (seen x) s) x.reading m step answer) k.so_far;
      ends_joining = λ x s j step m answer hears is stops k. removal_of_refused_on ConvertsNow converting_go_on x s k.so_far;
      renewed = λ x s m answer hears is k.
          fitting x s (next_after_renewal (is_some (recovery_of x.setting (seen x) s)) m.reading answer) (renewed_fits IsLate x s (is_some (recovery_of x.setting (seen x) s)) m.reading answer) k.so_far;
      freed = λ x s j m answer hears is k. fitting x s (next_after_free j m.call.number answer) (freed_fits IsLate x s (λ r late. late) j m.call.number answer) k.so_far;
      shown = λ x s m bytes hears is joined begins k. stopped_on ConvertsNow converting_go_on x s None (surveys_no_job x s m (Read bytes) k.known.known hears is) k.so_far;
      sees = λ x s number bytes at g has input held k. other_call_converting x s.number g.path SeeRequest (request_offset x.setting.layout g.offset) (ReadSectors 1) (other_work SeeRequest refl) k.so_far;
      leads_on = λ x s work step m answer aim hears is on at k. led x s work step m answer aim k (record { whole = k.known.known; hears = hears; purpose = is; on = on; aimed = at });
      fails = λ x s m j hears lone runs k. told x j (IoFault m.call.number) refl k.so_far;
      has_asked = λ x s m j owner hears is runs k. told x j Done refl k.so_far;
      has_set = λ x s m j hears is runs k. told x j (set_reply m) (plainly_late (set_reply m) (set_late m)) k.so_far;
      asks = λ x s m j bytes c hears is runs at k. asked x s j bytes c k.so_far;
      tells = λ x s m j bytes hears is runs k. told x j (value_reply x.setting.layout bytes) (plainly_late (value_reply x.setting.layout bytes) (value_late x.setting.layout bytes)) k.so_far;
      warns = λ x s m bytes g signal hears is held own says k. sent_on ConvertsNow converting_go_on x g.process signal k.so_far;
      joins_in_time = λ x s j has wake is runs k.
          fitting x s (next_on_wake (delta_of_session x.setting s) x.reading (calls_of (seen x) s))
          (wake_fits IsLate x s (joins_still x s j k.known.known.0 has is runs) (delta_of_session x.setting s) x.reading (calls_of (seen x) s)) k.so_far;
      renews = λ x s has wake joined k.
          renewal_keeps ConvertsNow x s (delta_of_session x.setting s) x.reading (delta_known x.setting (seen x) s) (bits_due x.setting (calls_of (seen x) s) x.reading)
          (λ d. plain_call_converting x s s.path Renewal (own_offset x.setting s) (WriteRecord (DeltaIs d)) refl refl k.so_far) k.so_far;
      settles = λ x s at has wake active aligned none k. settled x s at (next_of_settling x.setting (seen x) s at) k.so_far;
      parts = λ x s has joined recovers free quiet k. removal_on ConvertsNow converting_go_on x s.lockspace k.so_far;
      frees = λ x s has joined well free quiet k.
          free_keeps ConvertsNow x s (λ j d. plain_call_converting x s s.path (Leaving j) (own_offset x.setting s) (WriteRecord (DeltaIs d)) refl refl k.so_far) k.so_far;
    }

-- ---- once a step has begun

pub conversions_begin : (st : Setting) (past : Trace) (now : ℕ) → Holds st past → Converting st past → ConvertsNow (begin_recoveries (begin_step st past now))
conversions_begin st past now h c = subst (λ y. ConvertsNow y) (sym said_so.is) here where
  said_so : Says IsDenial (begin_step st past now) (begin_recoveries (begin_step st past now))
  said_so = begun_says st past now

  z : Step
  z = with_said (begin_step st past now) said_so.signals said_so.starts said_so.replies

  here : ConvertsNow (with_said (begin_step st past now) said_so.signals said_so.starts said_so.replies)
  here m j step r shared p there unmet purpose runs named =
      holds_on z m m p refl (held_before z refl refl)
      (c m j step r shared p there unmet purpose (ran_past past (entry_of z) j runs) (command_past st past (entry_of z) m j (Convert r shared p) h.whole.facts.jobs there (ap (λ q. job_of q) purpose) named))
