-- How a session may read and write its id's sector: watch, decide, claim, wait, verify, renew, free.
use Rattle.sl_area.specs.AreaSizes.{record_in, sector_with}
use Rattle.sl_area.specs.AreaLayout.{is_base}
use Rattle.sl_run.specs.LawForms.{EachCall, EachSession, newest_moves, older}
use Rattle.sl_sector.specs.Bitmaps.{no_bits}
use Rattle.sl_sector.specs.SectorLayouts.{delta_in}
use Rattle.sl_sector.specs.declared.sector.DeltaRec.{DeltaRec}
use Rattle.sl_sector.specs.declared.sector.DeltaState.TheVariants.{Claimed, Free, Live}
use Rattle.sl_sector.specs.declared.sector.Rec.TheVariants.{DeltaIs}
use Rattle.sl_trace.specs.DeltaDecisions.{claim_of, delta_of_session, delta_record, own_offset}
use Rattle.sl_trace.specs.Sessions.{calls_of, delta_written, generation_of, has_open_delta, holdings_of, is_delta_purpose, is_join_call, is_leaving, is_survey_purpose, join_call, joined_after, last_seq, open_calls_of, recovery_of, session_named, stage_of}
use Rattle.sl_trace.specs.declared.session.Session.{Session}
use Rattle.sl_trace.specs.declared.stage.Stage.TheVariants.{Deciding, Looking, Standing, Verifying, Waiting}
use Rattle.sl_time.specs.Times.{dead, fail, join_max, take_over}
use Rattle.sl_trace.specs.WatchdogConnections.{is_registered, registers_with}
use Rattle.sl_trace.specs.Traces.{Answered, Setting, Submitted, Trace, gave, is_ok_answer, same_place}
use Rattle.sl_trace.specs.declared.effects.Entry.{Entry}
use Rattle.sl_trace.specs.declared.effects.JoinStep.TheVariants.{ClaimWrite, DecidingRead, FirstRead, FirstRenewal, VerifyRead, WatchRead}
use Rattle.sl_trace.specs.declared.effects.JoinStep.{JoinStep}
use Rattle.sl_trace.specs.declared.effects.Op.TheVariants.{ReadSectors}
use Rattle.sl_trace.specs.declared.effects.Purpose.TheVariants.{Joining, Leaving, Renewal, Survey}
use Rattle.sl_trace.specs.declared.effects.Purpose.{Purpose}
use Rattle.sl_trace.specs.declared.input.Answer.TheVariants.{Written}
use Rattle.std.specs.List.{list_any}
use Rattle.std.specs.Prelude.{Bool, Contains, IsTrue, List, None, Some, false, not, [], ℕ, ◌&&◌, ◌+◌, ◌∷◌, ◌≡◌, ◌≤◌, ◌⊎◌}

-- A read of the joining that gave these bytes.
abbrev pub Gave : Trace → Session → JoinStep → List ℕ → Submitted → Type 0
Gave es s step bytes r = Contains (calls_of es s) r × IsTrue (is_join_call step r.call.purpose) × (gave r ≡ Some bytes)

-- The newest entry registers the session's connection, until fail after it.
abbrev pub IsRegistering : Setting → Trace → Session → Submitted → Type 0
IsRegistering st es s c = IsTrue (list_any (registers_with s.lockspace (c.reading + fail st.timing)) (newest_moves es))

-- The first read of a joining.
pub record LawfulLook (st : Setting) (es : Trace) (s : Session) (c : Submitted) : Type 0 where
  -- a write in the place of a read would be under no law
  pub reads : c.call.op ≡ ReadSectors 1
  -- from an offset within a sector it would read an id's record, and claim it, at a place that no other session of the id looks at
  pub placed : IsTrue (is_base st.layout s.offset)
  -- two sessions of one daemon in one lockspace would share a name, and could take each other's record for their own
  pub apart : session_named st es s.lockspace ≡ None

-- A further read of the watched sector.
pub record LawfulWatch (st : Setting) (es : Trace) (s : Session) (c : Submitted) : Type 0 where
  pub reads : c.call.op ≡ ReadSectors 1
  -- once the deciding read is out nothing is watched any more
  pub looking : stage_of es s ≡ Looking

-- The watched record is free, or a read that was submitted `take_over` after the first one's answer gave the same bytes.
abbrev pub WatchOver : Setting → Trace → Session → List ℕ → Submitted → DeltaRec → Type 0
WatchOver st es s bytes first found =
    (found.state ≡ Free)
    ⊎ ((r : Submitted) × (a : Answered) × (first.answer ≡ Some a) × Gave es s WatchRead bytes r
    × (a.reading + take_over st.timing ≤ r.reading))

-- The deciding read.
pub record LawfulDeciding (st : Setting) (es : Trace) (s : Session) (c : Submitted) : Type 0 where
  pub reads : c.call.op ≡ ReadSectors 1
  -- it comes once, after the watch
  pub looking : stage_of es s ≡ Looking
  pub bytes : List ℕ
  pub first : Submitted
  pub found : DeltaRec
  pub given : Gave es s FirstRead bytes first
  -- an id of another lockspace, or another id, is not this session's to take
  pub spelled : (delta_in (record_in st.layout bytes) ≡ Some found) × (found.lockspace ≡ s.lockspace) × (found.id ≡ s.id)
  -- a record that changed has a living writer
  pub same : (r : Submitted) (b : List ℕ) → Gave es s WatchRead b r → b ≡ bytes
  -- a writer that stood still for less could still renew
  pub watched : WatchOver st es s bytes first found
  -- registered in another entry, the connection would not bound how long the claim may still come
  pub registered : IsRegistering st es s c

-- The claim: one generation and one seq above what was watched.
pub record LawfulClaim (st : Setting) (es : Trace) (s : Session) (c : Submitted) : Type 0 where
  -- it is written once, after the deciding read
  pub deciding : stage_of es s ≡ Deciding
  pub bytes : List ℕ
  pub first : Submitted
  pub read : Submitted
  pub found : DeltaRec
  pub watched : Gave es s FirstRead bytes first
  -- a sector that changed meanwhile has another writer
  pub decided : Gave es s DecidingRead bytes read
  pub spelled : delta_in (record_in st.layout bytes) ≡ Some found
  -- an equal generation would name two sessions
  pub written : delta_written c ≡ Some (delta_record (delta_of_session st s) Claimed (found.generation + 1) (found.seq + 1) c.reading no_bits)

-- The verify read.
pub record LawfulVerify (st : Setting) (es : Trace) (s : Session) (c : Submitted) : Type 0 where
  pub reads : c.call.op ≡ ReadSectors 1
  -- it comes once, after the claim was answered ok
  pub waiting : stage_of es s ≡ Waiting
  pub claim : Submitted
  pub answer : Answered
  pub claimed : join_call (calls_of es s) ClaimWrite ≡ Some claim
  pub answered : (claim.answer ≡ Some answer) × IsTrue (is_ok_answer answer.answer)
  -- in between nobody's connection stands for it
  pub unregistered : is_registered st (older es) s.lockspace ≡ false
  -- another's claim on the same record could still land
  pub waited : answer.reading + dead st.timing ≤ c.reading
  -- a watcher of the claim could already have taken it
  pub in_time : c.reading ≤ claim.reading + join_max st.timing
  -- registered in another entry, the connection would not bound how long the session acts
  pub registered : IsRegistering st es s c

-- The first renewal.
pub record LawfulFirstRenewal (st : Setting) (es : Trace) (s : Session) (c : Submitted) : Type 0 where
  pub verifying : stage_of es s ≡ Verifying
  pub claim : DeltaRec
  pub read : Submitted
  pub claimed : claim_of (calls_of es s) ≡ Some claim
  -- another's claim may have landed over it
  pub verified : Gave es s VerifyRead (sector_with st.layout (DeltaIs claim)) read
  pub written : delta_written c ≡ Some (delta_record (delta_of_session st s) Live claim.generation (claim.seq + 1) c.reading no_bits)

-- A renewal.
pub record LawfulRenewal (st : Setting) (es : Trace) (s : Session) (c : Submitted) : Type 0 where
  -- only a joined session, before its free
  pub standing : stage_of es s ≡ Standing
  -- in recovery no sector is written
  pub well : recovery_of st es s ≡ None
  pub bitmap : List ℕ
  -- two equal records would look like silence
  pub written : delta_written c ≡ Some (delta_record (delta_of_session st s) Live (generation_of es s) (last_seq es s + 1) c.reading bitmap)

-- The free.
pub record LawfulFree (st : Setting) (es : Trace) (s : Session) (c : Submitted) : Type 0 where
  -- written once: it stands for the session's end
  pub standing : stage_of es s ≡ Standing
  pub leaving : IsTrue (is_leaving st es s)
  pub well : recovery_of st es s ≡ None
  -- whoever sees the free takes its resources
  pub no_holding : holdings_of es s ≡ []
  -- a write in flight would land after the end
  pub no_call : open_calls_of es s ≡ []
  pub written : delta_written c ≡ Some (delta_record (delta_of_session st s) Free (generation_of es s) (last_seq es s + 1) c.reading no_bits)

-- A read of all delta sectors, which feeds the evidence.
pub record LawfulSurvey (st : Setting) (es : Trace) (s : Session) (c : Submitted) : Type 0 where
  -- evidence is said of joined sessions
  pub standing : stage_of es s ≡ Standing
  -- sectors of another area tell nothing of these ids
  pub whole : (c.call.path ≡ s.path) × (c.call.offset ≡ s.offset) × (c.call.op ≡ ReadSectors st.layout.hosts)

-- By the step of a joining.
abbrev pub LawfulJoinStep : Setting → Trace → Session → Submitted → JoinStep → Type 0
LawfulJoinStep st es s c FirstRead = LawfulLook st es s c
LawfulJoinStep st es s c WatchRead = LawfulWatch st es s c
LawfulJoinStep st es s c DecidingRead = LawfulDeciding st es s c
LawfulJoinStep st es s c ClaimWrite = LawfulClaim st es s c
LawfulJoinStep st es s c VerifyRead = LawfulVerify st es s c
LawfulJoinStep st es s c FirstRenewal = LawfulFirstRenewal st es s c

-- By what a call is for; no other call writes a delta record.
abbrev pub LawfulDeltaCall : Setting → Trace → Session → Submitted → Purpose → Type 0
LawfulDeltaCall st es s c (Joining j step) = LawfulJoinStep st es s c step
LawfulDeltaCall st es s c Renewal = LawfulRenewal st es s c
LawfulDeltaCall st es s c Survey = LawfulSurvey st es s c
LawfulDeltaCall st es s c (Leaving j) = LawfulFree st es s c
LawfulDeltaCall st es s c p = delta_written c ≡ None

-- Whether a call is at the session's own sector.
abbrev pub is_on_own_sector : Setting → Session → Submitted → Bool
is_on_own_sector st s c = same_place c.call.path c.call.offset s.path (own_offset st s)

-- A session joins, after so many entries, by the answer ok of its first renewal.
pub record LawfulJoin (es : Trace) (s : Session) (k : ℕ) : Type 0 where
  pub renewal : Submitted
  pub answer : Answered
  pub first : join_call (calls_of es s) FirstRenewal ≡ Some renewal
  pub done : (renewal.answer ≡ Some answer) × (answer.answer ≡ Written) × (answer.at + 1 ≡ k)

-- Lawful delta writing.
pub record LawfulDelta (st : Setting) (past : Trace) (e : Entry) : Type 0 where
  pub calls : EachCall st (λ es s c. LawfulDeltaCall st es s c c.call.purpose) past e
  -- a record at another place is another id's
  pub placed : EachCall st (λ es s c. IsTrue (is_delta_purpose c.call.purpose && not (is_survey_purpose c.call.purpose)) → IsTrue (is_on_own_sector st s c)) past e
  -- one that joined by its claim alone, or by any earlier reply, could share its generation with another
  pub joins : EachSession st (λ s. (j k : ℕ) → s.job ≡ Some j → joined_after (e ∷ past) s ≡ Some k → LawfulJoin (e ∷ past) s k) (e ∷ past)
  -- two writes of one sector could land in the other order
  pub alone : EachCall st (λ es s c. IsTrue (is_delta_purpose c.call.purpose) → has_open_delta es s ≡ false) past e
