-- A call that is on no delta sector keeps the law of delta sectors; so does what a delta lease decides where nothing was called before.
use Rattle.sl_due_facts.specs.Acts.Acts.{Has, Hears}
use Rattle.sl_due_facts.specs.Acts.TraceSoFar.{entry_of}
use Rattle.sl_area.specs.AreaSizes.{record_in, sector_with}
use Rattle.sl_due.specs.CarriedDelta.{carry_delta, for_joining, move_connection, read_own_sector, register, survey, write_own_sector}
use Rattle.sl_due.specs.DueTimeOuts.{refuse, remove_connection}
use Rattle.sl_due.specs.CarriedLease.{name_on, next_turn}
use Rattle.sl_due.specs.Steps.{Step, add_call_of, add_reply, seen, with_some}
use Rattle.sl_due_facts.proofs.Jobs.EffectsAreAllowed.{Allows, GrantAllowed, LeaseAllowed, ReadAllowed, RequestAllowed, block_no_delta, leader_no_delta, refusal, removal, delta}
use Rattle.sl_due_facts.proofs.Jobs.NearlyPlainActs.{AnyMove, AnyStart}
use Rattle.sl_due_facts.proofs.Jobs.RepliesComeAfter.{on_bool, on_option}
use Rattle.sl_run.specs.LawfulDelta.{LawfulDeltaCall}
use Rattle.sl_run.specs.LawForms.{EachCall, cut_at}
use Rattle.sl_trace.specs.declared.lease.LeaseNext.TheVariants.{AnswerJob, BecomeExclusive, BecomeShared, GrantJob, Nothing as No_lease, ReadFor, WriteBlock, WriteLeader}
use Rattle.sl_trace.specs.declared.lease.LeaseNext.{LeaseNext}
use Rattle.sl_due_facts.proofs.AddedEffects.CallsGrow.{each_more}
use Rattle.sl_sector.specs.Bitmaps.{no_bits}
use Rattle.sl_sector.specs.SectorLayouts.{delta_in}
use Rattle.sl_sector.specs.declared.sector.DeltaRec.{DeltaRec}
use Rattle.sl_sector.specs.declared.sector.DeltaState.TheVariants.{Claimed, Live}
use Rattle.sl_sector.specs.declared.sector.Rec.TheVariants.{DeltaIs}
use Rattle.sl_due_facts.proofs.Connections.DeltaCallsAreLawful.{claims_are_lawful, first_renewals_are_lawful}
use Rattle.sl_due_facts.proofs.Connections.DeltaReadsAreLawful.{joined_surveys_are_lawful}
use Rattle.sl_due_facts.proofs.Connections.HeardCalls.{unjoined_well}
use Rattle.sl_due_facts.proofs.Connections.JoiningConnections.{working_unjoined}
use Rattle.sl_due_facts.proofs.Connections.JoiningDecisions.{heard_working}
use Rattle.sl_due_facts.proofs.Connections.LooksAreLawful.{free_is_decided, watched_is_decided}
use Rattle.sl_due_facts.specs.Connections.DeltaCalls.{DeltaLawful, own_read, own_write, survey_read}
use Rattle.sl_due_facts.specs.Connections.DeltasSoFar.{CallsKept, DeltaKept}
use Rattle.sl_due_facts.specs.Connections.WatchFacts.{HasWatchFacts}
use Rattle.sl_trace.specs.DeltaDecisions.{DeltaLease, claim_of, claim_on, delta_of_session, delta_record, id_held, id_lost, is_watched_out, next_after_deciding, next_after_first, next_after_verify, next_after_watch, next_in_joining, own_offset, watched}
use Rattle.sl_trace.specs.Sessions.{calls_of, delta_of_record, delta_written, generation_of, is_delta_purpose, is_join_call, is_survey_purpose, session_numbered}
use Rattle.sl_trace.specs.Sightings.{is_free_state}
use Rattle.sl_trace.specs.declared.delta.DeltaNext.TheVariants.{Disconnect, EndLeaving, Join, MoveConnection, Nothing, ReadOwn, RefuseJoin, RegisterAndRead, WriteClaim, WriteFirst, WriteFree, WriteRenewal}
use Rattle.sl_trace.specs.declared.delta.DeltaNext.{DeltaNext}
use Rattle.sl_trace.specs.declared.session.Session.{Session}
use Rattle.sl_due_facts.specs.Facts.AllFacts.{Whole}
use Rattle.sl_trace.specs.Traces.{Setting, Submitted, Trace, is_running, new_call, next_call, record_of}
use Rattle.sl_trace.specs.declared.command.Command.TheVariants.{Acquire, AddLockspace, Convert, GetLvb, HostStatus, InqLockspace, Release, ReleaseOrphan, RemLockspace, Request, RunProgram, SetKillpath, SetLvb, Status, TakeOver}
use Rattle.sl_trace.specs.declared.command.Command.{Command}
use Rattle.sl_trace.specs.declared.effects.Call.{Call}
use Rattle.sl_trace.specs.declared.effects.JoinStep.TheVariants.{ClaimWrite, DecidingRead, FirstRead, FirstRenewal, VerifyRead, WatchRead}
use Rattle.sl_trace.specs.declared.effects.JoinStep.{JoinStep}
use Rattle.sl_trace.specs.declared.effects.LeaseRead.TheVariants.{OfArea, OfBlock, OfFree, OfPhase1, OfPhase2}
use Rattle.sl_trace.specs.declared.effects.LeaseStep.TheVariants.{ClearMode, FreeLeader, Phase1Read, Phase1Write, Phase2Read, Phase2Write, ReadAgain, ReadArea, ReadBeforeBlock, ReadBeforeFree, SetMode, TakeLeader}
use Rattle.sl_trace.specs.declared.effects.LeaseStep.{LeaseStep}
use Rattle.sl_trace.specs.declared.effects.Op.TheVariants.{ReadSectors, WriteRecord}
use Rattle.sl_trace.specs.declared.effects.Op.{Op}
use Rattle.sl_trace.specs.declared.effects.Purpose.TheVariants.{Joining, Lease, Leaving, Renewal, RequestRead, RequestWrite, SeeRequest, Survey, ValueRead, ValueWrite}
use Rattle.sl_trace.specs.declared.effects.Purpose.{Purpose}
use Rattle.sl_trace.specs.declared.effects.Spot.{Spot}
use Rattle.sl_trace.specs.declared.effects.Work.{Work}
use Rattle.sl_trace.specs.declared.input.Answer.TheVariants.{Failed, Read, Written}
use Rattle.sl_trace.specs.declared.input.Answer.{Answer}
use Rattle.sl_trace.specs.declared.reply.Limited.TheVariants.{Gen as GenLimit, Seq as SeqLimit}
use Rattle.sl_trace.specs.declared.reply.Reply.TheVariants.{Generation, Limit as LimitReached, TornDelta, WrongDelta}
use Rattle.sl_trace.specs.declared.reply.Reply.{Reply}
use Rattle.sl_words.proofs.CaseLaws.{false_is_true, none_some, not_both, one_value, true_is_false}
use Rattle.sl_words.proofs.WordLaws.{and_true}
use Rattle.sl_words.specs.Bounds.{is_number}
use Rattle.std.proofs.Common.{ap, refl, subst, sym, ◌∙◌}
use Rattle.std.specs.Prelude.{List, None, Some, [], bytes_eq, false, length, not, option_and_then, slice_get, true, ℕ, ◌&&◌, ◌+◌, ◌==◌, ◌∷◌, ◌≡◌}

-- ---- calls that are on no delta sector

abbrev IsPlain : Trace → Session → Submitted → Type 0
IsPlain t s c = (is_delta_purpose c.call.purpose ≡ false) × (delta_written c ≡ None)

abbrev pub Plainly : Step → Type 0
Plainly x = EachCall x.setting IsPlain x.past (entry_of x)

abbrev pub AnyReply : ℕ → Reply → Type 0
AnyReply j r = Unit {0}

abbrev pub PlainWork : Session → List ℕ → Purpose → ℕ → Op → Type 0
PlainWork s path p o op = (is_delta_purpose p ≡ false) × (option_and_then delta_of_record (record_of op) ≡ None)

no_look : (p : Purpose) → is_delta_purpose p ≡ false → is_join_call FirstRead p ≡ false
no_look (Joining j step) other = absurd (true_is_false other)
no_look Renewal other = refl
no_look Survey other = refl
no_look (Leaving j) other = refl
no_look (Lease work step) other = refl
no_look (RequestRead j) other = refl
no_look (RequestWrite j owner) other = refl
no_look SeeRequest other = refl
no_look (ValueWrite j) other = refl
no_look (ValueRead j) other = refl

pub plain_allow : Allows Plainly Plainly AnyReply PlainWork AnyStart AnyMove
plain_allow =
    record {
      ends = λ y e h. h;
      signals = λ y q signal h. h;
      moves = λ y m may h. h;
      grants = λ y g h. h;
      starts = λ y k may h. h;
      replies = λ y j r may h. h;
      calls = λ y s path p o op may h.
          each_more y.setting IsPlain (entry_of y) y.past (record { number = next_call y.setting (seen y); session = s.number; purpose = p; path = path; offset = o; op = op }) (no_look p may.0) h (λ z its. may);
      rest = λ y h. h;
    }

pub plain_bare : (x : Step) → x.effects.calls ≡ [] → Plainly x
plain_bare x bare k c s at its = absurd (none_some c (ap (λ cs. slice_get cs k) (sym bare) ∙ at))

reads_plain : (y : Step) (s : Session) (at : Spot) (work : Work) (step : LeaseStep) → ReadAllowed PlainWork y s at work step
reads_plain y s at work (ReadArea name) = (refl, refl)
reads_plain y s at work ReadBeforeFree = (refl, refl)
reads_plain y s at work ReadBeforeBlock = (refl, refl)
reads_plain y s at work (ReadAgain (OfArea name)) = (refl, refl)
reads_plain y s at work (ReadAgain OfFree) = (refl, refl)
reads_plain y s at work (ReadAgain OfBlock) = (refl, refl)
reads_plain y s at work (ReadAgain OfPhase1) = (refl, refl)
reads_plain y s at work (ReadAgain OfPhase2) = (refl, refl)
reads_plain y s at work Phase1Write = (refl, refl)
reads_plain y s at work Phase1Read = (refl, refl)
reads_plain y s at work Phase2Write = (refl, refl)
reads_plain y s at work Phase2Read = (refl, refl)
reads_plain y s at work TakeLeader = (refl, refl)
reads_plain y s at work SetMode = (refl, refl)
reads_plain y s at work FreeLeader = (refl, refl)
reads_plain y s at work ClearMode = (refl, refl)

pub grants_plain : (j lver : ℕ) (c : Command) → GrantAllowed AnyReply AnyStart j lver c
grants_plain j lver (Acquire r shared q persistent) = tt
grants_plain j lver (TakeOver r shared q persistent) = tt
grants_plain j lver (RunProgram r shared path) = tt
grants_plain j lver (Release r q) = tt
grants_plain j lver (ReleaseOrphan r) = tt
grants_plain j lver (Convert r shared q) = tt
grants_plain j lver (Request r n force) = tt
grants_plain j lver (GetLvb r q) = tt
grants_plain j lver (SetLvb r q bytes) = tt
grants_plain j lver (AddLockspace a) = tt
grants_plain j lver (RemLockspace a) = tt
grants_plain j lver (InqLockspace a) = tt
grants_plain j lver (HostStatus a) = tt
grants_plain j lver (SetKillpath q path) = tt
grants_plain j lver Status = tt

pub lease_plain : (y : Step) (s : Session) (at : Spot) (work : Work) (n : LeaseNext) → LeaseAllowed AnyReply PlainWork AnyStart y s at work n
lease_plain y s at work No_lease = tt
lease_plain y s at work (ReadFor step) = reads_plain y s at work step
lease_plain y s at work (WriteBlock step b) = (refl, (block_no_delta y.setting.layout (next_turn y.setting (seen y) s at) s.lockspace (name_on y.setting (seen y) s at) b))
lease_plain y s at work (WriteLeader step l) = (refl, leader_no_delta y.setting.layout l)
lease_plain y s at work (AnswerJob r) = λ j is. tt
lease_plain y s at work (GrantJob mode lver) = λ j c is reads_one. grants_plain j lver c
lease_plain y s at work (BecomeShared lver l) = ((λ j is. tt), (refl, leader_no_delta y.setting.layout l))
lease_plain y s at work (BecomeExclusive lver b) = ((λ j is. tt), λ z same. (refl, (block_no_delta z.setting.layout (next_turn z.setting (seen z) s at) s.lockspace (name_on z.setting (seen z) s at) b)))

pub request_plain : (x : Step) (s : Session) (j : ℕ) (bytes : List ℕ) (c : Command) → RequestAllowed AnyReply PlainWork x s j bytes c
request_plain x s j bytes (Request r asked force) = ((λ why is. tt), (refl, refl))
request_plain x s j bytes (AddLockspace a) = tt
request_plain x s j bytes (RemLockspace a) = tt
request_plain x s j bytes (InqLockspace a) = tt
request_plain x s j bytes (HostStatus a) = tt
request_plain x s j bytes (Acquire r shared p persistent) = tt
request_plain x s j bytes (TakeOver r shared p persistent) = tt
request_plain x s j bytes (Release r p) = tt
request_plain x s j bytes (ReleaseOrphan r) = tt
request_plain x s j bytes (Convert r shared p) = tt
request_plain x s j bytes (RunProgram r shared path) = tt
request_plain x s j bytes (GetLvb r p) = tt
request_plain x s j bytes (SetLvb r p other) = tt
request_plain x s j bytes (SetKillpath p path) = tt
request_plain x s j bytes Status = tt

-- ---- what is kept of each call

pub kept_of : (st : Setting) (t : Trace) (s : Session) (c : Submitted) → is_survey_purpose c.call.purpose ≡ false → is_join_call FirstRead c.call.purpose ≡ false → DeltaLawful st t s c → DeltaKept st t s c
kept_of st t s c other later h =
    record {
      delta = h.delta;
      placed = h.placed;
      alone = h.alone;
      well = λ is. absurd (not_both (is_survey_purpose c.call.purpose) is other);
      early = λ is. absurd (not_both (is_join_call FirstRead c.call.purpose) is later);
    }

plain_delta : (st : Setting) (t : Trace) (s : Session) (c : Submitted) (p : Purpose) → is_delta_purpose p ≡ false → delta_written c ≡ None → LawfulDeltaCall st t s c p
plain_delta st t s c (Joining j step) other none = absurd (true_is_false other)
plain_delta st t s c Renewal other none = absurd (true_is_false other)
plain_delta st t s c Survey other none = absurd (true_is_false other)
plain_delta st t s c (Leaving j) other none = absurd (true_is_false other)
plain_delta st t s c (Lease work step) other none = none
plain_delta st t s c (RequestRead j) other none = none
plain_delta st t s c (RequestWrite j owner) other none = none
plain_delta st t s c SeeRequest other none = none
plain_delta st t s c (ValueWrite j) other none = none
plain_delta st t s c (ValueRead j) other none = none

no_survey : (p : Purpose) → is_delta_purpose p ≡ false → is_survey_purpose p ≡ false
no_survey (Joining j step) other = refl
no_survey Renewal other = refl
no_survey Survey other = absurd (true_is_false other)
no_survey (Leaving j) other = refl
no_survey (Lease work step) other = refl
no_survey (RequestRead j) other = refl
no_survey (RequestWrite j owner) other = refl
no_survey SeeRequest other = refl
no_survey (ValueWrite j) other = refl
no_survey (ValueRead j) other = refl

pub plain_kept : (st : Setting) (t : Trace) (s : Session) (c : Submitted) → IsPlain t s c → DeltaKept st t s c
plain_kept st t s c h =
    record {
      delta = plain_delta st t s c c.call.purpose h.0 h.1;
      placed = λ is. absurd (not_both (is_delta_purpose c.call.purpose) (and_true (is_delta_purpose c.call.purpose) (not (is_survey_purpose c.call.purpose)) is).0 h.0);
      alone = λ is. absurd (not_both (is_delta_purpose c.call.purpose) is h.0);
      well = λ is. absurd (not_both (is_survey_purpose c.call.purpose) is (no_survey c.call.purpose h.0));
      early = λ is. absurd (not_both (is_join_call FirstRead c.call.purpose) is (no_look c.call.purpose h.0));
    }

pub plainly_kept : (x : Step) → Plainly x → CallsKept x
plainly_kept x h k c s at its = plain_kept x.setting (cut_at k (entry_of x) ∷ x.past) s (new_call (length x.past) x.reading c) (h k c s at its)

-- One more call.
pub called : (y : Step) (s : Session) (path : List ℕ) (p : Purpose) (o : ℕ) (op : Op) → is_join_call FirstRead p ≡ false → Has y s → CallsKept y
    → DeltaKept y.setting (seen y) s (new_call (length y.past) y.reading (record { number = next_call y.setting (seen y); session = s.number; purpose = p; path = path; offset = o; op = op })) → CallsKept (add_call_of s.number path p o op y)
called y s path p o op first has h new =
    each_more y.setting (DeltaKept y.setting) (entry_of y) y.past made first h
    (λ z its. subst (λ q. DeltaKept y.setting (seen y) q (new_call (length y.past) y.reading made)) (one_value s z (session_numbered y.setting (seen y) s.number) has its) new) where
      made : Call
      made = record { number = next_call y.setting (seen y); session = s.number; purpose = p; path = path; offset = o; op = op }

pub called_plain : (y : Step) (s : Session) (path : List ℕ) (p : Purpose) (o : ℕ) (op : Op) → PlainWork s path p o op → CallsKept y → CallsKept (add_call_of s.number path p o op y)
called_plain y s path p o op may h =
    each_more y.setting (DeltaKept y.setting) (entry_of y) y.past made (no_look p may.0) h
    (λ z its. plain_kept y.setting (seen y) z (new_call (length y.past) y.reading made) may) where
      made : Call
      made = record { number = next_call y.setting (seen y); session = s.number; purpose = p; path = path; offset = o; op = op }

-- ---- what a delta lease decides where nothing was called before

abbrev NextKept : Step → Session → ℕ → DeltaNext → Type 0
NextKept x s j Nothing = Unit {0}
NextKept x s j (RefuseJoin r) = Unit {0}
NextKept x s j Disconnect = Unit {0}
NextKept x s j (ReadOwn step) = (is_join_call FirstRead (Joining j step) ≡ false) × DeltaLawful x.setting (seen x) s (own_read x s (Joining j step))
NextKept x s j (RegisterAndRead step) = (is_join_call FirstRead (Joining j step) ≡ false) × DeltaLawful x.setting (seen (register s x)) s (own_read (register s x) s (Joining j step))
NextKept x s j (WriteClaim d) = DeltaLawful x.setting (seen x) s (own_write x s (Joining j ClaimWrite) d)
NextKept x s j (WriteFirst d) = DeltaLawful x.setting (seen x) s (own_write x s (Joining j FirstRenewal) d)
NextKept x s j (Join generation renewed) =
    DeltaKept x.setting (seen (add_reply j (Generation generation) (move_connection s renewed x))) s (survey_read (add_reply j (Generation generation) (move_connection s renewed x)) s)
NextKept x s j (MoveConnection renewed) = ⊥
NextKept x s j (WriteRenewal d) = ⊥
NextKept x s j (WriteFree i d) = ⊥
NextKept x s j (EndLeaving i r) = ⊥

pub for_own_calls : (x : Step) (s : Session) (j : ℕ) (f : ℕ → Step → Step) → s.job ≡ Some j → CallsKept (f j x) → CallsKept (for_joining s f x)
for_own_calls x s j f its h = subst (λ o. CallsKept (with_some o f x)) (sym its) h

pub joining_calls : (x : Step) (s : Session) (j : ℕ) (n : DeltaNext) → s.job ≡ Some j → Has x s → x.effects.calls ≡ [] → NextKept x s j n → CallsKept (carry_delta s n x)
unfolding carry_delta
joining_calls x s j Nothing its has bare may = plainly_kept x (plain_bare x bare)
joining_calls x s j (RefuseJoin r) its has bare may =
    for_own_calls x s j (λ i. refuse i r) its (plainly_kept (refuse j r x) (refusal Plainly Plainly AnyReply PlainWork AnyStart AnyMove plain_allow x j r tt (λ z is. tt) (plain_bare x bare)))
joining_calls x s j (ReadOwn step) its has bare may =
    for_own_calls x s j (λ i. read_own_sector s (Joining i step)) its
    (called x s s.path (Joining j step) (own_offset x.setting s) (ReadSectors 1) may.0 has (plainly_kept x (plain_bare x bare)) (kept_of x.setting (seen x) s (own_read x s (Joining j step)) refl may.0 may.1))
joining_calls x s j (RegisterAndRead step) its has bare may =
    for_own_calls x s j (λ i y. read_own_sector s (Joining i step) (register s y)) its
    (called (register s x) s s.path (Joining j step) (own_offset x.setting s) (ReadSectors 1) may.0 has (plainly_kept (register s x) (plain_bare (register s x) bare)) (kept_of x.setting (seen (register s x)) s (own_read (register s x) s (Joining j step)) refl may.0 may.1))
joining_calls x s j (WriteClaim d) its has bare may =
    for_own_calls x s j (λ i. write_own_sector s (Joining i ClaimWrite) d) its
    (called x s s.path (Joining j ClaimWrite) (own_offset x.setting s) (WriteRecord (DeltaIs d)) refl has (plainly_kept x (plain_bare x bare)) (kept_of x.setting (seen x) s (own_write x s (Joining j ClaimWrite) d) refl refl may))
joining_calls x s j Disconnect its has bare may = plainly_kept (remove_connection s.lockspace x) (removal Plainly Plainly AnyReply PlainWork AnyStart AnyMove plain_allow x s.lockspace tt (plain_bare x bare))
joining_calls x s j (WriteFirst d) its has bare may =
    for_own_calls x s j (λ i. write_own_sector s (Joining i FirstRenewal) d) its
    (called x s s.path (Joining j FirstRenewal) (own_offset x.setting s) (WriteRecord (DeltaIs d)) refl has (plainly_kept x (plain_bare x bare)) (kept_of x.setting (seen x) s (own_write x s (Joining j FirstRenewal) d) refl refl may))
joining_calls x s j (Join generation renewed) its has bare may =
    let z : Step = add_reply j (Generation generation) (move_connection s renewed x) in
    for_own_calls x s j (λ i y. survey s (add_reply i (Generation generation) (move_connection s renewed y))) its
    (called z s s.path Survey s.offset (ReadSectors x.setting.layout.hosts) refl has (plainly_kept z (plain_bare z bare)) may)
joining_calls x s j (MoveConnection renewed) its has bare may = absurd may
joining_calls x s j (WriteRenewal d) its has bare may = absurd may
joining_calls x s j (WriteFree i d) its has bare may = absurd may
joining_calls x s j (EndLeaving i r) its has bare may = absurd may

pub heard_next : (x : Step) (s : Session) (j : ℕ) (step : JoinStep) (m : Submitted) (answer : Answer) → Whole x → HasWatchFacts x → Hears x s m answer → m.call.purpose ≡ Joining j step → is_running (seen x) j ≡ true
    → NextKept x s j (next_in_joining (delta_of_session x.setting s) (generation_of (seen x) s) (calls_of (seen x) s) x.reading m step answer)
unfolding next_in_joining next_after_first next_after_watch next_after_deciding next_after_verify
heard_next x s j step m answer h watches hears is runs = by step answer hears is where
  l : DeltaLease
  l = delta_of_session x.setting s

  ms : List Submitted
  ms = calls_of (seen x) s

  P : DeltaNext → DeltaNext → Type 0
  P whole n = whole ≡ n → NextKept x s j n

  claims : (b : List ℕ) (d : DeltaRec) → Hears x s m (Read b) → m.call.purpose ≡ Joining j DecidingRead → P (next_after_deciding (delta_of_session x.setting s) (calls_of (seen x) s) x.reading b) (claim_on (delta_of_session x.setting s) x.reading d)
  claims b d hears its =
      on_bool (P (next_after_deciding (delta_of_session x.setting s) (calls_of (seen x) s) x.reading b)) (is_number (d.generation + 1)) (RefuseJoin (LimitReached GenLimit))
      (elim (is_number (d.seq + 1)) [ false ↦ RefuseJoin (LimitReached SeqLimit) | true ↦ WriteClaim (delta_record (delta_of_session x.setting s) Claimed (d.generation + 1) (d.seq + 1) x.reading no_bits) ]) (λ e. tt)
      (on_bool (P (next_after_deciding (delta_of_session x.setting s) (calls_of (seen x) s) x.reading b)) (is_number (d.seq + 1)) (RefuseJoin (LimitReached SeqLimit)) (WriteClaim (delta_record (delta_of_session x.setting s) Claimed (d.generation + 1) (d.seq + 1) x.reading no_bits)) (λ e. tt)
      (λ e. claims_are_lawful x s j m b (delta_record (delta_of_session x.setting s) Claimed (d.generation + 1) (d.seq + 1) x.reading no_bits) h hears its runs e))

  by : (at : JoinStep) (a : Answer) → Hears x s m a → m.call.purpose ≡ Joining j at → NextKept x s j (next_in_joining (delta_of_session x.setting s) (generation_of (seen x) s) (calls_of (seen x) s) x.reading m at a)
  by at Failed hears its = tt
  by FirstRead (Read bytes) hears its =
      on_option (P (next_after_first (delta_of_session x.setting s) bytes)) (delta_in (record_in x.setting.layout bytes)) (RefuseJoin TornDelta)
      (λ d. elim (bytes_eq d.lockspace s.lockspace && d.id == s.id) [ false ↦ RefuseJoin (WrongDelta d.lockspace d.id) | true ↦ elim (is_free_state d.state) [ true ↦ RegisterAndRead DecidingRead | false ↦ Nothing ] ]) (λ e. tt)
      (λ d. on_bool (P (next_after_first (delta_of_session x.setting s) bytes)) (bytes_eq d.lockspace s.lockspace && d.id == s.id) (RefuseJoin (WrongDelta d.lockspace d.id)) (elim (is_free_state d.state) [ true ↦ RegisterAndRead DecidingRead | false ↦ Nothing ]) (λ e. tt)
      (on_bool (P (next_after_first (delta_of_session x.setting s) bytes)) (is_free_state d.state) Nothing (RegisterAndRead DecidingRead) (λ e. tt) (λ e. (refl, free_is_decided x s j m bytes h hears its runs e)))) refl
  by WatchRead (Read bytes) hears its =
      on_bool (P (next_after_watch (delta_of_session x.setting s) (calls_of (seen x) s) m.reading bytes)) (bytes_eq (watched (calls_of (seen x) s)) bytes) (RefuseJoin (id_held x.setting.layout (watched (calls_of (seen x) s)) bytes))
      (elim (is_watched_out x.setting.timing (calls_of (seen x) s) m.reading) [ true ↦ RegisterAndRead DecidingRead | false ↦ Nothing ]) (λ e. tt)
      (on_bool (P (next_after_watch (delta_of_session x.setting s) (calls_of (seen x) s) m.reading bytes)) (is_watched_out x.setting.timing (calls_of (seen x) s) m.reading) Nothing (RegisterAndRead DecidingRead) (λ e. tt)
      (λ e. (refl, watched_is_decided x s j m bytes h watches hears its runs e))) refl
  by DecidingRead (Read bytes) hears its =
      on_bool (P (next_after_deciding (delta_of_session x.setting s) (calls_of (seen x) s) x.reading bytes)) (bytes_eq (watched (calls_of (seen x) s)) bytes) (RefuseJoin (id_held x.setting.layout (watched (calls_of (seen x) s)) bytes))
      (elim (delta_in (record_in x.setting.layout bytes)) [ None ↦ Nothing | Some d ↦ claim_on (delta_of_session x.setting s) x.reading d ]) (λ e. tt)
      (on_option (P (next_after_deciding (delta_of_session x.setting s) (calls_of (seen x) s) x.reading bytes)) (delta_in (record_in x.setting.layout bytes)) Nothing (λ d. claim_on (delta_of_session x.setting s) x.reading d) (λ e. tt) (λ d. claims bytes d hears its)) refl
  by VerifyRead (Read bytes) hears its =
      on_option (P (next_after_verify (delta_of_session x.setting s) (calls_of (seen x) s) x.reading bytes)) (claim_of (calls_of (seen x) s)) Nothing
      (λ claim. elim (bytes_eq bytes (sector_with x.setting.layout (DeltaIs claim))) [
        | false ↦ RefuseJoin (id_lost (delta_of_session x.setting s) claim bytes)
        | true ↦ elim (is_number (claim.seq + 1)) [ false ↦ RefuseJoin (LimitReached SeqLimit) | true ↦ WriteFirst (delta_record (delta_of_session x.setting s) Live claim.generation (claim.seq + 1) x.reading no_bits) ]
      ]) (λ e. tt)
      (λ claim. on_bool (P (next_after_verify (delta_of_session x.setting s) (calls_of (seen x) s) x.reading bytes)) (bytes_eq bytes (sector_with x.setting.layout (DeltaIs claim))) (RefuseJoin (id_lost (delta_of_session x.setting s) claim bytes))
      (elim (is_number (claim.seq + 1)) [ false ↦ RefuseJoin (LimitReached SeqLimit) | true ↦ WriteFirst (delta_record (delta_of_session x.setting s) Live claim.generation (claim.seq + 1) x.reading no_bits) ]) (λ e. tt)
      (on_bool (P (next_after_verify (delta_of_session x.setting s) (calls_of (seen x) s) x.reading bytes)) (is_number (claim.seq + 1)) (RefuseJoin (LimitReached SeqLimit)) (WriteFirst (delta_record (delta_of_session x.setting s) Live claim.generation (claim.seq + 1) x.reading no_bits)) (λ e. tt)
      (λ e. first_renewals_are_lawful x s j m bytes (delta_record (delta_of_session x.setting s) Live claim.generation (claim.seq + 1) x.reading no_bits) h hears its runs e))) refl
  by ClaimWrite (Read bytes) hears its = tt
  by FirstRenewal (Read bytes) hears its = tt
  by ClaimWrite Written hears its = tt
  by FirstRenewal Written hears its =
      let g : DeltaLawful x.setting (seen (add_reply j (Generation (generation_of (seen x) s)) (move_connection s m.reading x))) s (survey_read (add_reply j (Generation (generation_of (seen x) s)) (move_connection s m.reading x)) s)
      = joined_surveys_are_lawful x s j m Written (generation_of (seen x) s) m.reading h hears its runs in
      record { delta = g.delta; placed = g.placed; alone = g.alone; well = λ t. unjoined_well x s (working_unjoined x s j (heard_working x s j FirstRenewal m Written h hears its runs)); early = λ is. absurd (false_is_true is) }
  by FirstRead Written hears its = tt
  by WatchRead Written hears its = tt
  by DecidingRead Written hears its = tt
  by VerifyRead Written hears its = tt
