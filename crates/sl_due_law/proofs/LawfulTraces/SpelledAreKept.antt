-- What is written is a record: on id sectors, requests and values by what is known, on leases by what they decide.
use Rattle.sl_due_law.proofs.LawfulTraces.AnswerWrites.{answers_well}
use Rattle.sl_due_law.proofs.LawfulTraces.ConversionWrites.{converts_well}
use Rattle.sl_trace.specs.declared.command.ResourceArg.{ResourceArg}
use Rattle.sl_trace.specs.declared.effects.Mode.{Mode}
use Rattle.sl_due_law.proofs.LawfulTraces.ReleaseWrites.{releases_well}
use Rattle.sl_due_law.proofs.LawfulTraces.SettleWrites.{settles_well}
use Rattle.sl_trace.specs.declared.effects.Grant.{Grant}
use Rattle.sl_trace.specs.declared.input.Input.TheVariants.{Wake, Exit, Line}
use Rattle.std.specs.Prelude.{[], ◌≡◌, Bool, Contains, List, None, Option, Some, filter, is_some, ℕ, ◌&&◌, ◌+◌, ◌==◌, ◌⊎◌, Ok, false, if◌then◌else◌, true, ◌≤◌}
use Rattle.sl_due.specs.DueCommands.{decided, carry_decision}
use Rattle.sl_due_law.proofs.LawfulTraces.ValueWrites.{values_well}
use Rattle.sl_sector.specs.Records.{IsValue, IsRecord}
use Rattle.sl_sector.specs.declared.sector.ValueRec.{ValueRec}
use Rattle.sl_due_facts.proofs.Acts.AddedAtEnd.{contains_last}
use Rattle.sl_due_facts.proofs.Acts.LoopsKeep.{with_some_keeps}
use Rattle.sl_due_facts.proofs.Acts.Pairs.Decisions.{conversion_is, release_is}
use Rattle.sl_due_facts.proofs.Acts.Pairs.Records.{leader_spelled}
use Rattle.sl_due_facts.proofs.Jobs.CallsStay.{calls_stay, late}
use Rattle.sl_due_law.proofs.LawfulTraces.PairWrites.{RecordsFit, answers_fit, conversions_fit, releases_fit, settlings_fit}
use Rattle.sl_due_leases.proofs.Holdings.DecisionsHaveGrounds.{decisions_have_grounds}
use Rattle.sl_due_leases.proofs.Ways.WayFactsHeld.EffectsLeave.{there_has}
use Rattle.sl_due_leases.specs.Holdings.DecisionGrounds.{HasGrounds}
use Rattle.sl_due_leases.specs.Ways.Nexts.{next_place, next_record}
use Rattle.sl_trace.specs.Ballots.{moded_block}
use Rattle.sl_trace.specs.Conversions.{convert_next}
use Rattle.sl_trace.specs.LeaseDecisions.{lease_place}
use Rattle.sl_trace.specs.Releases.{release_next}
use Rattle.sl_trace.specs.declared.effects.Mode.TheVariants.{Exclusive, Shared}
use Rattle.std.specs.Option.{option_map_or}
use Rattle.sl_due_facts.specs.Acts.Acts.{Acts, next_of_conversion, next_of_release, next_of_settling}
use Rattle.sl_area.specs.AreaLayout.{area_sectors, block_sectors, delta_offset, request_offset}
use Rattle.sl_area.specs.AreaRecords.{block_record, leader_record}
use Rattle.sl_due.specs.DueAnswers.{set_reply}
use Rattle.sl_due.specs.DueInputs.{end_holdings, leave_holdings, started_reply}
use Rattle.sl_due.specs.CarriedLease.{carry_lease, convert_for, convert_holding, for_work, held_otherwise, next_of_lease, with_command}
use Rattle.sl_due.specs.DueRequests.{after_value_read, bits_due, value_reply}
use Rattle.sl_due.specs.Steps.{Step, add_end, add_grant, seen, with_input, with_some}
use Rattle.sl_due.specs.declared.decision.Decision.{Decision}
use Rattle.sl_due.specs.declared.decision.Decision.TheVariants.{ConvertsTo, GetsValue, GivesUp, Joins, Leaves, ReadsArea, Replies, Requests, SetsValue, Shares, TakesOver}
use Rattle.sl_due_facts.proofs.Jobs.EffectsAreAllowed.{Allows, DecisionAllowed, DeltaAllowed, GrantAllowed, LeaseAllowed, ReadAllowed, RequestAllowed, decision, delta, ended, exited, lease, left, refusal, removal_of_refused, requested, said, sent, stopped, removal, signalled}
use Rattle.sl_due_facts.proofs.Jobs.NearlyPlainActs.{AnyMove, AnyStart, Anything}
use Rattle.sl_due_facts.proofs.Jobs.RepliesComeAfter.{on_bool}
use Rattle.sl_trace.specs.Jobs.{command_numbered, job_of_start, process_named}
use Rattle.sl_trace.specs.Leases.{LeaseKnown, base_turn, is_lease_call, is_on, known, spot_of, spot_of_call, verified_name}
use Rattle.sl_trace.specs.declared.lease.LeaseNext.{LeaseNext}
use Rattle.sl_trace.specs.declared.lease.LeaseNext.TheVariants.{AnswerJob, BecomeExclusive, BecomeShared, GrantJob, Nothing as No_lease, ReadFor, WriteBlock, WriteLeader}
use Rattle.sl_sector.specs.declared.sector.Rec.TheVariants.{DeltaIs, RequestIs, ValueIs}
use Rattle.sl_trace.specs.DeltaDecisions.{delta_known, delta_of_session, next_after_free, next_after_renewal, next_free, next_in_joining, next_on_wake, next_renewal}
use Rattle.sl_trace.specs.Sessions.{calls_of, generation_of, is_call_of, recovery_of, sessions}
use Rattle.sl_trace.specs.declared.delta.DeltaNext.{DeltaNext}
use Rattle.sl_trace.specs.declared.delta.DeltaNext.TheVariants.{Disconnect, EndLeaving, Join, MoveConnection, Nothing, ReadOwn, RefuseJoin, RegisterAndRead, WriteClaim, WriteFirst, WriteFree, WriteRenewal}
use Rattle.sl_trace.specs.declared.session.Session.{Session}
use Rattle.sl_trace.specs.Traces.{Setting, Submitted, Trace, end_of, next_call, next_job, spot_of_grant, submitted, work_job, record_of}
use Rattle.sl_trace.specs.declared.command.Command.{Command}
use Rattle.sl_trace.specs.declared.command.Command.TheVariants.{Acquire, AddLockspace, Convert, GetLvb, HostStatus, InqLockspace, Release, ReleaseOrphan, RemLockspace, Request, RunProgram, SetKillpath, SetLvb, Status, TakeOver}
use Rattle.sl_trace.specs.declared.effects.Call.{Call}
use Rattle.sl_trace.specs.declared.effects.JoinStep.TheVariants.{FirstRead}
use Rattle.sl_trace.specs.declared.effects.LeaseStep.{LeaseStep}
use Rattle.sl_trace.specs.declared.effects.LeaseStep.TheVariants.{ClearMode, FreeLeader, Phase1Read, Phase1Write, Phase2Read, Phase2Write, ReadAgain, ReadArea, ReadBeforeBlock, ReadBeforeFree, SetMode, TakeLeader}
use Rattle.sl_trace.specs.declared.effects.Op.{Op}
use Rattle.sl_trace.specs.declared.effects.Op.TheVariants.{ReadSectors, WriteRecord}
use Rattle.sl_trace.specs.declared.effects.Purpose.{Purpose}
use Rattle.sl_trace.specs.declared.effects.Purpose.TheVariants.{Joining, Lease, SeeRequest}
use Rattle.sl_trace.specs.declared.effects.Signal.TheVariants.{Kill, Term}
use Rattle.sl_trace.specs.declared.effects.Spot.{Spot}
use Rattle.sl_trace.specs.declared.effects.Work.{Work}
use Rattle.sl_trace.specs.declared.effects.Work.TheVariants.{ForJob, Settling}
use Rattle.sl_trace.specs.declared.input.Answer.{Answer}
use Rattle.sl_trace.specs.declared.input.Answer.TheVariants.{Failed, Read, Written}
use Rattle.sl_trace.specs.declared.reply.Reply.TheVariants.{Done, Granted, IoFault, IoTimeout, SpawnFault}
use Rattle.sl_words.proofs.CaseLaws.{none_some, some_value, true_is_false}
use Rattle.std.proofs.Common.{ap, inl, inr, refl, subst, sym, ◌∙◌}
use Rattle.sl_due_facts.proofs.Acts.InputsKeep.{has_heard}
use Rattle.sl_due_law.proofs.LawfulTraces.DeltaWrites.{WritesRecord, frees_well, joins_well, renews_well, wakes_well}
use Rattle.sl_due_law.proofs.LawfulTraces.OwnRecords.{request_is, session_id}
use Rattle.sl_due_law.specs.LawfulTraces.CarriedFacts.{Kept}
use Rattle.sl_due_law.specs.LawfulTraces.TraceLaws.{SpelledSoFar}
use Rattle.sl_due_law.specs.LawfulTraces.Writes.{LeaseWrites}
use Rattle.sl_due_leases.proofs.Holdings.LeaseCallers.{commands_fit}
use Rattle.sl_words.proofs.Lists.{got_inside}
use Rattle.sl_sector.specs.declared.sector.Rec.{Rec}
use Rattle.sl_trace.specs.CommandForms.{IsCommand}
use Rattle.sl_trace.specs.declared.command.LockspaceArg.{LockspaceArg}
use Rattle.sl_words.specs.Bounds.{most_hosts}
use Rattle.sl_sector.specs.declared.sector.Block.{Block}
use Rattle.sl_trace.specs.declared.effects.LeaseRead.TheVariants.{OfArea, OfBlock, OfFree, OfPhase1, OfPhase2}

-- ---- calls that write records

abbrev Spelled : Session → List ℕ → Purpose → ℕ → Op → Type 0
Spelled s path p o op = (r : Rec) → record_of op ≡ Some r → IsRecord r

reads_spelled : (n : ℕ) (r : Rec) → record_of (ReadSectors n) ≡ Some r → IsRecord r
reads_spelled n r is = absurd (none_some r is)

record_spelled : (k : Rec) → IsRecord k → (r : Rec) → record_of (WriteRecord k) ≡ Some r → IsRecord r
record_spelled k good r is = subst (λ z. IsRecord z) (some_value k r is) good

-- All that was written up to here is.
spelled_now : (x : Step) → Kept x → SpelledSoFar x
spelled_now x k = k.known.0.orderly.calls.0.spelled

spelled_effects : Allows SpelledSoFar SpelledSoFar Anything Spelled AnyStart AnyMove
spelled_effects =
    record {
      ends = λ y e h. h;
      signals = λ y q signal h. h;
      moves = λ y m may h. h;
      grants = λ y g h. h;
      starts = λ y k may h. h;
      replies = λ y j r may h. h;
      calls = λ y s path p o op may h c r there. by y c r h may (contains_last y.effects.calls (record { number = next_call y.setting (seen y); session = s.number; purpose = p; path = path; offset = o; op = op }) c there);
      rest = λ y h. h;
    } where
      by : {d : Call} (y : Step) (c : Call) (r : Rec) → SpelledSoFar y → ((k : Rec) → record_of d.op ≡ Some k → IsRecord k) → Contains y.effects.calls c ⊎ (d ≡ c) → record_of c.op ≡ Some r → IsRecord r
      by y c r h may (inl old) is = h c r old is
      by {d} y c r h may (inr same) is = may r (ap (λ (z : Call). record_of z.op) same ∙ is)

-- ---- id sectors

delta_allowed : (y : Step) (s : Session) (n : DeltaNext) → WritesRecord n → DeltaAllowed Anything Spelled AnyMove y s n
delta_allowed y s Nothing k = tt
delta_allowed y s (RefuseJoin r) k = λ j its. (tt, λ z is. tt)
delta_allowed y s (ReadOwn step) k = λ j its. reads_spelled 1
delta_allowed y s (RegisterAndRead step) k = λ j its. (tt, reads_spelled 1)
delta_allowed y s (WriteClaim d) k = λ j its. record_spelled (DeltaIs d) k
delta_allowed y s Disconnect k = tt
delta_allowed y s (WriteFirst d) k = λ j its. record_spelled (DeltaIs d) k
delta_allowed y s (Join generation renewed) k = λ j its. (tt, tt, reads_spelled y.setting.layout.hosts)
delta_allowed y s (MoveConnection renewed) k = (tt, reads_spelled y.setting.layout.hosts)
delta_allowed y s (WriteRenewal d) k = record_spelled (DeltaIs d) k
delta_allowed y s (WriteFree j d) k = record_spelled (DeltaIs d) k
delta_allowed y s (EndLeaving j r) k = (tt, tt)

renewed_well : (recovering : Bool) (made : ℕ) (answer : Answer) → WritesRecord (next_after_renewal recovering made answer)
renewed_well recovering made Written = on_bool WritesRecord recovering (MoveConnection made) Nothing tt tt
renewed_well recovering made Failed = tt
renewed_well recovering made (Read bytes) = tt

freed_well : (j call : ℕ) (answer : Answer) → WritesRecord (next_after_free j call answer)
freed_well j call Written = tt
freed_well j call Failed = tt
freed_well j call (Read bytes) = tt

-- ---- leases

reads_allowed : (y : Step) (s : Session) (at : Spot) (work : Work) (step : LeaseStep) → ReadAllowed Spelled y s at work step
reads_allowed y s at work (ReadArea name) = reads_spelled (area_sectors y.setting.layout)
reads_allowed y s at work ReadBeforeFree = reads_spelled (area_sectors y.setting.layout)
reads_allowed y s at work ReadBeforeBlock = reads_spelled (block_sectors y.setting.layout)
reads_allowed y s at work (ReadAgain (OfArea name)) = reads_spelled (area_sectors y.setting.layout)
reads_allowed y s at work (ReadAgain OfFree) = reads_spelled (area_sectors y.setting.layout)
reads_allowed y s at work (ReadAgain OfBlock) = reads_spelled (block_sectors y.setting.layout)
reads_allowed y s at work (ReadAgain OfPhase1) = reads_spelled (block_sectors y.setting.layout)
reads_allowed y s at work (ReadAgain OfPhase2) = reads_spelled (block_sectors y.setting.layout)
reads_allowed y s at work Phase1Write = reads_spelled (block_sectors y.setting.layout)
reads_allowed y s at work Phase1Read = reads_spelled (block_sectors y.setting.layout)
reads_allowed y s at work Phase2Write = reads_spelled (block_sectors y.setting.layout)
reads_allowed y s at work Phase2Read = reads_spelled (block_sectors y.setting.layout)
reads_allowed y s at work TakeLeader = reads_spelled (block_sectors y.setting.layout)
reads_allowed y s at work SetMode = reads_spelled (block_sectors y.setting.layout)
reads_allowed y s at work FreeLeader = reads_spelled (block_sectors y.setting.layout)
reads_allowed y s at work ClearMode = reads_spelled (block_sectors y.setting.layout)

grant_allowed : (j lver : ℕ) (c : Command) → GrantAllowed Anything AnyStart j lver c
grant_allowed j lver (Acquire r shared q persistent) = tt
grant_allowed j lver (TakeOver r shared q persistent) = tt
grant_allowed j lver (RunProgram r shared path) = tt
grant_allowed j lver (Release r q) = tt
grant_allowed j lver (ReleaseOrphan r) = tt
grant_allowed j lver (Convert r shared q) = tt
grant_allowed j lver (Request r n force) = tt
grant_allowed j lver (GetLvb r q) = tt
grant_allowed j lver (SetLvb r q bytes) = tt
grant_allowed j lver (AddLockspace a) = tt
grant_allowed j lver (RemLockspace a) = tt
grant_allowed j lver (InqLockspace a) = tt
grant_allowed j lver (HostStatus a) = tt
grant_allowed j lver (SetKillpath q path) = tt
grant_allowed j lver Status = tt

-- Whether a holding becomes exclusive: the block behind it is written after the holding has changed.
abbrev becomes : LeaseNext → Bool
becomes (BecomeExclusive lver b) = true
becomes n = false

-- What was decided, and its records have a spelling.
record Writing (y : Step) (s : Session) (at : Spot) (n : LeaseNext) : Type 0 where
  writes : LeaseWrites n
  fits : RecordsFit y.setting (seen y) s at n

lease_allowed : (y : Step) (s : Session) (at : Spot) (work : Work) (n : LeaseNext) → becomes n ≡ false → Writing y s at n → LeaseAllowed Anything Spelled AnyStart y s at work n
lease_allowed y s at work No_lease plain k = tt
lease_allowed y s at work (ReadFor step) plain k = reads_allowed y s at work step
lease_allowed y s at work (WriteBlock step b) plain k = record_spelled (next_record y.setting (seen y) s at b) (k.fits refl b k.writes)
lease_allowed y s at work (WriteLeader step l) plain k = record_spelled (leader_record y.setting.layout l) (leader_spelled y.setting.layout l k.writes)
lease_allowed y s at work (AnswerJob r) plain k = λ j is. tt
lease_allowed y s at work (GrantJob mode lver) plain k = λ j c is reads. grant_allowed j lver c
lease_allowed y s at work (BecomeShared lver l) plain k = ((λ j is. tt), record_spelled (leader_record y.setting.layout l) (leader_spelled y.setting.layout l k.writes))
lease_allowed y s at work (BecomeExclusive lver b) plain k = absurd (true_is_false plain)

-- A holding that is converted leaves the calls.
record KeepsCalls (x y : Step) : Type 0 where
  setting : y.setting ≡ x.setting
  calls : submitted (seen y) ≡ submitted (seen x)
  spelled : SpelledSoFar y

converted_keeps : (x : Step) (s : Session) (at : Spot) (work : Work) (mode : Mode) (lver : ℕ) → SpelledSoFar x → KeepsCalls x (for_work work (λ j. with_command j (λ c. convert_for s at j c mode lver)) x)
converted_keeps x s at work mode lver h =
    with_some_keeps (KeepsCalls x) (work_job work) (λ j. with_command j (λ c. convert_for s at j c mode lver)) x
    (λ j is a. with_some_keeps (KeepsCalls x) (command_numbered x.setting (seen x) j) (λ c. convert_for s at j c mode lver) x
    (λ c reads b. with_some_keeps (KeepsCalls x) (process_named c) (λ p y. with_some (held_otherwise (seen y) s at p mode) (convert_holding j mode lver) y) x
    (λ p names d. with_some_keeps (KeepsCalls x) (held_otherwise (seen x) s at p mode) (convert_holding j mode lver) x (λ g held e. changed j g) d) b) a) start where
      start : KeepsCalls x x
      start = record { setting = refl; calls = refl; spelled = h }

      changed : (j : ℕ) (g : Grant) → KeepsCalls x (convert_holding j mode lver g x)
      changed j g =
          let y : Step = add_grant (record g { mode = mode; lver = lver }) (add_end (end_of g) x) in
          record { setting = refl; calls = calls_stay y j (Granted lver) (late y (Granted lver) refl); spelled = h }

allowed : (x : Step) (s : Session) (at : Spot) (work : Work) (n : LeaseNext) → becomes n ≡ false → Writing x s at n → SpelledSoFar x → SpelledSoFar (carry_lease s at work n x)
allowed x s at work n plain k h = lease SpelledSoFar SpelledSoFar Anything Spelled AnyStart AnyMove spelled_effects x s at work n (lease_allowed x s at work n plain k) h

-- What a lease does next.
lease_spelled : (x : Step) (s : Session) (at : Spot) (work : Work) (n : LeaseNext) → Writing x s at n → SpelledSoFar x → SpelledSoFar (carry_lease s at work n x)
unfolding carry_lease
lease_spelled x s at work (BecomeExclusive lver b) k h =
    spelled_effects.calls z s at.path (Lease Settling ClearMode) (next_place z.setting (seen z) s at) (WriteRecord (next_record z.setting (seen z) s at b)) (record_spelled (next_record z.setting (seen z) s at b) spelled) same.spelled
  where
    z : Step
    z = for_work work (λ j. with_command j (λ c. convert_for s at j c Exclusive lver)) x

    same : KeepsCalls x z
    same = converted_keeps x s at work Exclusive lver h

    record_by : Setting → List Submitted → Rec
    record_by st ms =
        let leases : List Submitted = filter (λ (m : Submitted). is_lease_call m && is_on st.layout at m.call) (filter (is_call_of s) ms) in
        block_record st.layout (base_turn st.layout s.id leases + 1) s.lockspace (verified_name st.layout s.lockspace leases) b

    spelled : IsRecord (next_record z.setting (seen z) s at b)
    spelled = subst (λ r. IsRecord r) (ap (λ ms. record_by x.setting ms) (sym same.calls) ∙ ap (λ st. record_by st (submitted (seen z))) (sym same.setting)) (k.fits refl b k.writes)
lease_spelled x s at work No_lease k h = h
lease_spelled x s at work (ReadFor step) k h = allowed x s at work (ReadFor step) refl k h
lease_spelled x s at work (WriteBlock step b) k h = allowed x s at work (WriteBlock step b) refl k h
lease_spelled x s at work (WriteLeader step l) k h = allowed x s at work (WriteLeader step l) refl k h
lease_spelled x s at work (AnswerJob r) k h = allowed x s at work (AnswerJob r) refl k h
lease_spelled x s at work (GrantJob mode lver) k h = allowed x s at work (GrantJob mode lver) refl k h
lease_spelled x s at work (BecomeShared lver l) k h = allowed x s at work (BecomeShared lver l) refl k h

-- ---- requests

request_allowed : (x : Step) (s : Session) (j : ℕ) (bytes : List ℕ) (c : Command) → IsCommand x.setting.layout c → s.id ≤ most_hosts → RequestAllowed Anything Spelled x s j bytes c
request_allowed x s j bytes (Request r asked force) fits most =
    ((λ why is. tt), record_spelled (RequestIs (record { force = force; host = (if asked == 0 then 0 else s.id); lver = asked })) (request_is force asked s.id fits.1 most))
request_allowed x s j bytes (AddLockspace a) fits most = tt
request_allowed x s j bytes (RemLockspace a) fits most = tt
request_allowed x s j bytes (InqLockspace a) fits most = tt
request_allowed x s j bytes (HostStatus a) fits most = tt
request_allowed x s j bytes (Acquire r shared p persistent) fits most = tt
request_allowed x s j bytes (TakeOver r shared p persistent) fits most = tt
request_allowed x s j bytes (Release r p) fits most = tt
request_allowed x s j bytes (ReleaseOrphan r) fits most = tt
request_allowed x s j bytes (Convert r shared p) fits most = tt
request_allowed x s j bytes (RunProgram r shared path) fits most = tt
request_allowed x s j bytes (GetLvb r p) fits most = tt
request_allowed x s j bytes (SetLvb r p other) fits most = tt
request_allowed x s j bytes (SetKillpath p path) fits most = tt
request_allowed x s j bytes Status fits most = tt

-- ---- lines

-- What a release or a conversion begins with converts nothing.
release_stays : (st : Setting) (t : Trace) (s : Session) (at : Spot) (g : Grant) → becomes (next_of_release st t s at g) ≡ false
release_stays st t s at g = release_is (λ n. becomes n ≡ false) st t s at g (λ fits. by g.mode) (λ paired over writes. refl) where
  cleared : (o : Option Block) → becomes (option_map_or (λ own. WriteBlock ClearMode (moded_block own false 0)) o No_lease) ≡ false
  cleared None = refl
  cleared (Some own) = refl

  by : (mode : Mode) → becomes (release_next (lease_place st s) (known st t s at) mode g.lver) ≡ false
  by Exclusive = refl
  by Shared = cleared (known st t s at).own

conversion_stays : (st : Setting) (t : Trace) (s : Session) (at : Spot) (mode : Mode) (name : List ℕ) → becomes (next_of_conversion st t s at mode name) ≡ false
conversion_stays st t s at mode name = conversion_is (λ n. becomes n ≡ false) st t s at mode name (λ fits. by mode) (λ paired over writes. refl) where
  moded : (k : LeaseKnown) (o : Option Block) → becomes (option_map_or (λ own. WriteBlock SetMode (moded_block own true k.self.generation)) o No_lease) ≡ false
  moded k None = refl
  moded k (Some own) = refl

  by : (mode : Mode) → becomes (convert_next (known st t s at) mode name) ≡ false
  by Exclusive = refl
  by Shared = moded (known st t s at) (known st t s at).own

decision_allowed : (y : Step) (j : ℕ) (c : Command) (d : Decision) → ((s : Session) (at : Spot) (v : ValueRec) → d ≡ SetsValue s at v → IsValue v)
    → ((s : Session) (g : Grant) → d ≡ GivesUp s g → Writing (add_end (end_of g) y) s (spot_of_grant g) (next_of_release y.setting (seen (add_end (end_of g) y)) s (spot_of_grant g) g))
    → ((s : Session) (r : ResourceArg) (mode : Mode) → d ≡ ConvertsTo s r mode → Writing y s (spot_of r) (next_of_conversion y.setting (seen y) s (spot_of r) mode r.name)) → DecisionAllowed SpelledSoFar Anything Spelled AnyStart y j c d
decision_allowed y j c (Replies r) values gives converts = tt
decision_allowed y j c (Joins n a) values gives converts = λ z its. reads_spelled 1
decision_allowed y j c (Leaves s) values gives converts = (tt, λ z h i there. tt)
decision_allowed y j c (ReadsArea s r) values gives converts = reads_spelled (area_sectors y.setting.layout)
decision_allowed y j c (Shares s lver) values gives converts = grant_allowed j lver c
decision_allowed y j c (GivesUp s g) values gives converts =
    (tt, lease_allowed (add_end (end_of g) y) s (spot_of_grant g) (ForJob j) (next_of_release y.setting (seen (add_end (end_of g) y)) s (spot_of_grant g) g) (release_stays y.setting (seen (add_end (end_of g) y)) s (spot_of_grant g) g) (gives s g refl))
decision_allowed y j c (TakesOver s g) values gives converts = grant_allowed j g.lver c
decision_allowed y j c (ConvertsTo s r mode) values gives converts = lease_allowed y s (spot_of r) (ForJob j) (next_of_conversion y.setting (seen y) s (spot_of r) mode r.name) (conversion_stays y.setting (seen y) s (spot_of r) mode r.name) (converts s r mode refl)
decision_allowed y j c (Requests s r) values gives converts = reads_spelled 2
decision_allowed y j c (SetsValue s at v) values gives converts = record_spelled (ValueIs v) (values s at v refl)
decision_allowed y j c (GetsValue s at) values gives converts = reads_spelled 1

-- The call that begins a session is of no session yet.
joining_spelled : (x : Step) (j n : ℕ) (c : Command) (a : LockspaceArg) → SpelledSoFar x → SpelledSoFar (carry_decision j c (Joins n a) x)
unfolding carry_decision
joining_spelled x j n c a h k r there = by (contains_last x.effects.calls made k there) where
  made : Call
  made = record { number = next_call x.setting (seen x); session = n; purpose = Joining j FirstRead; path = a.path; offset = delta_offset x.setting.layout a.offset a.id; op = ReadSectors 1 }

  by : Contains x.effects.calls k ⊎ (made ≡ k) → record_of k.op ≡ Some r → IsRecord r
  by (inl old) is = h k r old is
  by (inr same) is = reads_spelled 1 r (ap (λ (z : Call). record_of z.op) same ∙ is)

carried_spelled : (x : Step) (text : List ℕ) (c : Command) (d : Decision) → Kept x → x.input ≡ Wake → x.effects.calls ≡ [] → x.setting.read text ≡ Ok c → decided x.setting (seen x) x.reading c ≡ d
    → SpelledSoFar (carry_decision (next_job x.setting (seen x)) c d (with_input (Line text) x))
carried_spelled x text c d k wake bare says is =
    decision SpelledSoFar SpelledSoFar Anything Spelled AnyStart AnyMove spelled_effects (with_input (Line text) x) (next_job x.setting (seen x)) c d (decision_allowed (with_input (Line text) x) (next_job x.setting (seen x)) c d
    (λ s at v sets. values_well x c s at v k.known.0 (k.known.0.setting.reads text c says) (is ∙ sets))
    (λ s g gives. record {
      writes = releases_well x text c s g wake bare k.known.0 (is ∙ gives);
      fits = releases_fit x text s g c wake bare k.known.0 (subst (λ q. HasGrounds x.setting (seen x) c q) (is ∙ gives) (decisions_have_grounds x.setting (seen x) x.reading c));
    })
    (λ s r mode sets. record {
      writes = converts_well x text c s r mode wake bare k.known.0 (is ∙ sets);
      fits = conversions_fit x text s r mode c wake bare k.known.0 (subst (λ q. HasGrounds x.setting (seen x) c q) (is ∙ sets) (decisions_have_grounds x.setting (seen x) x.reading c));
    }))
    (λ n a joins. joining_spelled (with_input (Line text) x) (next_job x.setting (seen x)) n c a (spelled_now x k)) (spelled_now x k)

-- ---- all acts

pub spelled_are_kept : Acts Kept SpelledSoFar
unfolding after_value_read
spelled_are_kept =
    record {
      kills = λ x s has due h. signalled SpelledSoFar SpelledSoFar Anything Spelled AnyStart AnyMove spelled_effects tt x Kill s (spelled_now x h);
      hears = λ x number answer wake bare expected h. spelled_now x h;
      counts = λ x text wake bare h. spelled_now x h;
      exits_as_none = λ x n wake bare none h. (spelled_now x h);
      starts = λ x n ok wake bare expected h. spelled_now x h;
      misreads = λ x text column wake bare says h. spelled_now x h;
      answers = λ x text c r wake bare says is h. spelled_now x h;
      carries = λ x text c d wake bare says is more h. carried_spelled x text c d h wake bare says is;
      sees = λ x s number bytes at g has input held h. spelled_effects.calls x s g.path SeeRequest (request_offset x.setting.layout g.offset) (ReadSectors 1) (reads_spelled 1) (spelled_now x h);
      parts = λ x s has joined recovers_one free quiet h. removal SpelledSoFar SpelledSoFar Anything Spelled AnyStart AnyMove spelled_effects x s.lockspace tt (spelled_now x h);
      frees = λ x s has joined well free quiet h. delta SpelledSoFar SpelledSoFar Anything Spelled AnyStart AnyMove spelled_effects x s (next_free (delta_of_session x.setting s) x.reading (delta_known x.setting (seen x) s)) (delta_allowed x s _ (frees_well x s h.known.0 has joined)) (spelled_now x h);
      times_out = λ x j m wake bare runs waits late_one h.
          (refusal SpelledSoFar SpelledSoFar Anything Spelled AnyStart AnyMove spelled_effects x j (IoTimeout m.call.number m.reading x.reading) tt (λ z is. tt) (spelled_now x h));
      exits = λ x n wake bare one h.
          let w : Step = with_input (Exit n) x in
          (exited SpelledSoFar SpelledSoFar Anything Spelled AnyStart AnyMove spelled_effects (leave_holdings n w) n (λ j there. tt) (left SpelledSoFar SpelledSoFar Anything Spelled AnyStart AnyMove spelled_effects w n (spelled_now x h)));
      fails_to_start = λ x n input h.
          (said SpelledSoFar SpelledSoFar Anything Spelled AnyStart AnyMove spelled_effects (end_holdings n x) (job_of_start (seen x) n) SpawnFault (λ j is. tt) (ended SpelledSoFar SpelledSoFar Anything Spelled AnyStart AnyMove spelled_effects x n (spelled_now x h)));
      signals_instead = λ x n o input stood h.
          (spelled_effects.signals x o Term (spelled_now x h));
      says_started = λ x n j input is runs h.
          (spelled_effects.replies x j (started_reply (seen x) n) tt (spelled_now x h));
      joins_on = λ x s j step m answer hears is runs h.
          delta SpelledSoFar SpelledSoFar Anything Spelled AnyStart AnyMove spelled_effects x s (next_in_joining (delta_of_session x.setting s) (generation_of (seen x) s) (calls_of (seen x) s) x.reading m step answer)
          (delta_allowed x s _ (joins_well x s m step answer h.known.0 (has_heard x s m answer hears))) (spelled_now x h);
      ends_joining = λ x s j step m answer hears is stops h.
          (removal_of_refused SpelledSoFar SpelledSoFar Anything Spelled AnyStart AnyMove spelled_effects x s tt (spelled_now x h));
      renewed = λ x s m answer hears is h.
          (delta SpelledSoFar SpelledSoFar Anything Spelled AnyStart AnyMove spelled_effects x s (next_after_renewal (is_some (recovery_of x.setting (seen x) s)) m.reading answer)
          (delta_allowed x s _ (renewed_well (is_some (recovery_of x.setting (seen x) s)) m.reading answer)) (spelled_now x h));
      freed = λ x s j m answer hears is h.
          (delta SpelledSoFar SpelledSoFar Anything Spelled AnyStart AnyMove spelled_effects x s (next_after_free j m.call.number answer) (delta_allowed x s _ (freed_well j m.call.number answer)) (spelled_now x h));
      shown = λ x s m bytes hears is joined begins h.
          (stopped SpelledSoFar SpelledSoFar Anything Spelled AnyStart AnyMove spelled_effects tt x s None (λ z k j there. tt) (spelled_now x h));
      leads_on = λ x s work step m answer aim hears is on aims h.
          lease_spelled x s (spot_of_call x.setting.layout m) work (next_of_lease x.setting (seen x) s (spot_of_call x.setting.layout m) aim m step answer)
          (record { writes = answers_well x s work step m answer aim h.known.0 hears is on; fits = answers_fit x s work step m answer aim h.known.0 hears is on aims }) (spelled_now x h);
      fails = λ x s m j hears lone runs h.
          (spelled_effects.replies x j (IoFault m.call.number) tt (spelled_now x h));
      has_asked = λ x s m j owner hears is runs h.
          (spelled_effects.replies x j Done tt (spelled_now x h));
      has_set = λ x s m j hears is runs h.
          (spelled_effects.replies x j (set_reply m) tt (spelled_now x h));
      asks = λ x s m j bytes c hears is runs reads_one h.
          (requested SpelledSoFar SpelledSoFar Anything Spelled AnyStart AnyMove spelled_effects x s j bytes c (request_allowed x s j bytes c (commands_fit x.setting (seen x) j c h.known.0.setting reads_one) (session_id x.setting (seen x) s h.known.0.setting (got_inside (sessions x.setting (seen x)) s.number s (has_heard x s m (Read bytes) hears))).1) (spelled_now x h));
      tells = λ x s m j bytes hears is runs h.
          (spelled_effects.replies x j (value_reply x.setting.layout bytes) tt (spelled_now x h));
      warns = λ x s m bytes g signal hears is held own says h.
          (sent SpelledSoFar SpelledSoFar Anything Spelled AnyStart AnyMove spelled_effects tt x g.process signal (spelled_now x h));
      joins_in_time = λ x s j has wake is runs h.
          delta SpelledSoFar SpelledSoFar Anything Spelled AnyStart AnyMove spelled_effects x s (next_on_wake (delta_of_session x.setting s) x.reading (calls_of (seen x) s))
          (delta_allowed x s _ (wakes_well (delta_of_session x.setting s) x.reading (calls_of (seen x) s))) (spelled_now x h);
      renews = λ x s has wake joined h.
          delta SpelledSoFar SpelledSoFar Anything Spelled AnyStart AnyMove spelled_effects x s (next_renewal (delta_of_session x.setting s) x.reading (delta_known x.setting (seen x) s) (bits_due x.setting (calls_of (seen x) s) x.reading))
          (delta_allowed x s _ (renews_well x s h.known.0 has joined)) (spelled_now x h);
      settles = λ x s spot has wake active whole none h.
          lease_spelled x s spot Settling (next_of_settling x.setting (seen x) s spot)
          (record { writes = settles_well x s spot h.known.0 has active whole; fits = settlings_fit x s spot h.known.0 (there_has x.setting (seen x) s.number s has) whole }) (spelled_now x h);
    }
