-- What is shown of calls on delta sectors: each that a delta lease decides on is lawful where it is made; and what a joining has read.
use Rattle.sl_due_facts.specs.Acts.Acts.{Acts, Has, Hears}
use Rattle.sl_due.specs.DueCommands.{decided}
use Rattle.sl_due.specs.CarriedDelta.{move_connection, register}
use Rattle.sl_due.specs.Steps.{Step, add_reply, seen, with_input, begin_step}
use Rattle.sl_due.specs.declared.decision.Decision.TheVariants.{Joins}
use Rattle.sl_due_facts.specs.Jobs.JobLaws.{BeginsWith}
use Rattle.sl_run.specs.LawfulDelta.{LawfulJoin}
use Rattle.sl_run.specs.LawForms.{EachSession}
use Rattle.sl_sector.specs.declared.sector.DeltaRec.{DeltaRec}
use Rattle.sl_due_facts.specs.Connections.DeltaCalls.{DeltaLawful, own_read, own_write, survey_read}
use Rattle.sl_due_facts.specs.Connections.WatchFacts.{HasWatchFacts, HasWatchesPlainly, WatchFacts}
use Rattle.sl_trace.specs.DeltaDecisions.{delta_known, delta_of_session, next_after_claim, next_after_deciding, next_after_first, next_after_verify, next_after_watch, next_free, next_renewal}
use Rattle.sl_trace.specs.Sessions.{calls_of, holdings_of, is_joined, joined_after, joining_session, open_calls_of, recovery_of}
use Rattle.sl_trace.specs.declared.delta.DeltaNext.TheVariants.{RegisterAndRead, WriteClaim, WriteFirst, WriteFree, WriteRenewal}
use Rattle.sl_trace.specs.declared.session.Session.{Session}
use Rattle.sl_due_facts.specs.Facts.ConcludingActs.{Concludes}
use Rattle.sl_due_facts.specs.Facts.SessionFacts.{ConnectionFacts, NameFacts}
use Rattle.sl_due_facts.specs.Facts.AllFacts.{Whole}
use Rattle.sl_due.specs.DueRecovery.{begin_recoveries}
use Rattle.sl_trace.specs.Traces.{Answered, Setting, Submitted, Trace, is_running, next_job}
use Rattle.sl_trace.specs.declared.command.Command.{Command}
use Rattle.sl_trace.specs.declared.command.LockspaceArg.{LockspaceArg}
use Rattle.sl_trace.specs.declared.effects.JoinStep.TheVariants.{ClaimWrite, DecidingRead, FirstRead, FirstRenewal, VerifyRead, WatchRead}
use Rattle.sl_trace.specs.declared.effects.JoinStep.{JoinStep}
use Rattle.sl_trace.specs.declared.effects.Purpose.TheVariants.{Joining, Leaving, Renewal}
use Rattle.sl_trace.specs.declared.input.Answer.TheVariants.{Read}
use Rattle.sl_trace.specs.declared.input.Answer.{Answer}
use Rattle.sl_trace.specs.declared.input.Input.TheVariants.{Line, Wake}
use Rattle.sl_trace.specs.declared.reply.Reply.TheVariants.{Generation}
use Rattle.std.specs.Prelude.{List, None, Ok, Some, [], false, is_some, true, ℕ, ◌∷◌, ◌≡◌, ◌⊎◌}

-- ---- what a joining has read

-- All that is known, with it.
abbrev pub KnowsReads : Step → Type 0
KnowsReads x = Whole x × HasWatchFacts x

abbrev pub WatchFactsAreKept : Type 0
WatchFactsAreKept = Acts KnowsReads HasWatchFacts

abbrev pub WatchFactsBegin : Type 0
WatchFactsBegin = (st : Setting) (past : Trace) (now : ℕ) → WatchFacts st past None → HasWatchFacts (begin_recoveries (begin_step st past now))

-- Before the first entry nothing was read.
abbrev pub NothingWasRead : Type 0
NothingWasRead = (st : Setting) → WatchFacts st [] None

abbrev pub WatchFactsConclude : Type 0
WatchFactsConclude = Concludes KnowsReads (λ x. Whole x × HasWatchesPlainly x) HasWatchesPlainly

-- ---- a joined session's calls

abbrev pub RenewalsAreLawful : Type 0
RenewalsAreLawful =
    (x : Step) (s : Session) (bits : List ℕ) (d : DeltaRec) → Whole x → Has x s → is_joined (seen x) s ≡ true →
    next_renewal (delta_of_session x.setting s) x.reading (delta_known x.setting (seen x) s) bits ≡ WriteRenewal d → DeltaLawful x.setting (seen x) s (own_write x s Renewal d)

abbrev pub FreesAreLawful : Type 0
FreesAreLawful =
    (x : Step) (s : Session) (j : ℕ) (d : DeltaRec) → Has x s → is_joined (seen x) s ≡ true → is_some (recovery_of x.setting (seen x) s) ≡ false →
    holdings_of (seen x) s ≡ [] → open_calls_of (seen x) s ≡ [] → next_free (delta_of_session x.setting s) x.reading (delta_known x.setting (seen x) s) ≡ WriteFree j d →
    DeltaLawful x.setting (seen x) s (own_write x s (Leaving j) d)

-- The look at all ids that follows a renewal, where the connection has moved; and that which follows a joining, where it is told.
abbrev pub RenewedSurveysAreLawful : Type 0
RenewedSurveysAreLawful =
    (x : Step) (s : Session) (m : Submitted) (answer : Answer) (renewed : ℕ) → Whole x → Hears x s m answer → m.call.purpose ≡ Renewal →
    DeltaLawful x.setting (seen (move_connection s renewed x)) s (survey_read (move_connection s renewed x) s)

abbrev pub JoinedSurveysAreLawful : Type 0
JoinedSurveysAreLawful =
    (x : Step) (s : Session) (j : ℕ) (m : Submitted) (answer : Answer) (generation renewed : ℕ) → Whole x → Hears x s m answer → m.call.purpose ≡ Joining j FirstRenewal →
    is_running (seen x) j ≡ true →
    DeltaLawful x.setting (seen (add_reply j (Generation generation) (move_connection s renewed x))) s (survey_read (add_reply j (Generation generation) (move_connection s renewed x)) s)

-- ---- a joining's calls

-- The first read, as the line is seen.
abbrev pub LooksAreLawful : Type 0
LooksAreLawful =
    (x : Step) (text : List ℕ) (c : Command) (n : ℕ) (a : LockspaceArg) → Whole x → x.input ≡ Wake → x.effects.calls ≡ [] → x.setting.read text ≡ Ok c →
    decided x.setting (seen x) x.reading c ≡ Joins n a →
    DeltaLawful x.setting (seen (with_input (Line text) x)) (joining_session n (next_job x.setting (seen x)) a)
    (own_read (with_input (Line text) x) (joining_session n (next_job x.setting (seen x)) a) (Joining (next_job x.setting (seen x)) FirstRead))

-- A further read of what is watched.
abbrev pub WatchesAreLawful : Type 0
WatchesAreLawful =
    (x : Step) (s : Session) (j : ℕ) (step : JoinStep) (m : Submitted) (ms : List Submitted) (a : Answered) → Whole x → Has x s → s.job ≡ Some j → is_running (seen x) j ≡ true →
    calls_of (seen x) s ≡ m ∷ ms → m.answer ≡ Some a → m.call.purpose ≡ Joining j step → (step ≡ FirstRead) ⊎ (step ≡ WatchRead) →
    DeltaLawful x.setting (seen x) s (own_read x s (Joining j WatchRead))

-- The deciding read, where the name is registered with it: after the first read of a free record, or once it was watched for long enough.
abbrev pub FreeIsDecided : Type 0
FreeIsDecided =
    (x : Step) (s : Session) (j : ℕ) (m : Submitted) (bytes : List ℕ) → Whole x → Hears x s m (Read bytes) → m.call.purpose ≡ Joining j FirstRead → is_running (seen x) j ≡ true →
    next_after_first (delta_of_session x.setting s) bytes ≡ RegisterAndRead DecidingRead → DeltaLawful x.setting (seen (register s x)) s (own_read (register s x) s (Joining j DecidingRead))

abbrev pub WatchedIsDecided : Type 0
WatchedIsDecided =
    (x : Step) (s : Session) (j : ℕ) (m : Submitted) (bytes : List ℕ) → Whole x → HasWatchFacts x → Hears x s m (Read bytes) → m.call.purpose ≡ Joining j WatchRead →
    is_running (seen x) j ≡ true → next_after_watch (delta_of_session x.setting s) (calls_of (seen x) s) m.reading bytes ≡ RegisterAndRead DecidingRead →
    DeltaLawful x.setting (seen (register s x)) s (own_read (register s x) s (Joining j DecidingRead))

abbrev pub ClaimsAreLawful : Type 0
ClaimsAreLawful =
    (x : Step) (s : Session) (j : ℕ) (m : Submitted) (bytes : List ℕ) (d : DeltaRec) → Whole x → Hears x s m (Read bytes) → m.call.purpose ≡ Joining j DecidingRead →
    is_running (seen x) j ≡ true → next_after_deciding (delta_of_session x.setting s) (calls_of (seen x) s) x.reading bytes ≡ WriteClaim d →
    DeltaLawful x.setting (seen x) s (own_write x s (Joining j ClaimWrite) d)

-- The verify read, where the name is registered with it.
abbrev pub VerifiesAreLawful : Type 0
VerifiesAreLawful =
    (x : Step) (s : Session) (j : ℕ) (m : Submitted) (ms : List Submitted) (a : Answered) → Whole x → NameFacts x.setting x.past None → ConnectionFacts x.setting x.past None → Has x s →
    x.input ≡ Wake → s.job ≡ Some j → is_running (seen x) j ≡ true → calls_of (seen x) s ≡ m ∷ ms → m.answer ≡ Some a → m.call.purpose ≡ Joining j ClaimWrite →
    next_after_claim (delta_of_session x.setting s) x.reading m.reading a.reading ≡ RegisterAndRead VerifyRead →
    DeltaLawful x.setting (seen (register s x)) s (own_read (register s x) s (Joining j VerifyRead))

abbrev pub FirstRenewalsAreLawful : Type 0
FirstRenewalsAreLawful =
    (x : Step) (s : Session) (j : ℕ) (m : Submitted) (bytes : List ℕ) (d : DeltaRec) → Whole x → Hears x s m (Read bytes) → m.call.purpose ≡ Joining j VerifyRead →
    is_running (seen x) j ≡ true → next_after_verify (delta_of_session x.setting s) (calls_of (seen x) s) x.reading bytes ≡ WriteFirst d →
    DeltaLawful x.setting (seen x) s (own_write x s (Joining j FirstRenewal) d)

-- ---- who has joined

-- Each session that a job began and that has joined did so by the answer ok of its first renewal: the last field of the law of delta sectors.
abbrev pub JoinsSoFar : Step → Type 0
JoinsSoFar x = EachSession x.setting (λ s. (j k : ℕ) → s.job ≡ Some j → joined_after (seen x) s ≡ Some k → LawfulJoin (seen x) s k) (seen x)

abbrev pub JoinsAreLawful : Type 0
JoinsAreLawful = Acts Whole JoinsSoFar

abbrev pub JoinsBegin : Type 0
JoinsBegin = BeginsWith JoinsSoFar
