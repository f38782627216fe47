-- A search for the law of delta writing, in a run without a joining or a leaving: renewals and reads of all ids.
use Rattle.sl_run.specs.LawfulDelta.{LawfulDelta, LawfulDeltaCall, LawfulJoin, LawfulRenewal, LawfulSurvey, is_on_own_sector}
use Rattle.sl_sector.specs.declared.sector.DeltaState.TheVariants.{Live}
use Rattle.sl_trace.specs.DeltaDecisions.{delta_of_session, delta_record}
use Rattle.sl_trace.specs.Sessions.{delta_written, generation_of, has_open_delta, is_delta_purpose, is_survey_purpose, joined_after, last_seq, recovery_of, stage_of}
use Rattle.sl_trace.specs.declared.session.Session.{Session}
use Rattle.sl_trace.specs.Traces.{Setting, Submitted, Trace}
use Rattle.sl_trace.specs.declared.effects.Entry.{Entry}
use Rattle.sl_trace.specs.declared.effects.Purpose.TheVariants.{Joining, Lease, Leaving, Renewal, RequestRead, RequestWrite, SeeRequest, Survey, ValueRead, ValueWrite}
use Rattle.sl_trace.specs.declared.effects.Purpose.{Purpose}
use Rattle.sl_examples.proofs.Witness.EachSearch.{seek_each_call, seek_each_session}
use Rattle.sl_examples.proofs.Witness.EqualitySearch.{seek_read_op, seek_some_delta, seek_standing}
use Rattle.sl_examples.proofs.Witness.ProofSearch.{seek_false, seek_if, seek_none, seek_same, seek_some, seek_text, seek_true, ◌>>=◌}
use Rattle.std.specs.Prelude.{IsTrue, None, Option, Some, false, not, ℕ, ◌&&◌, ◌+◌, ◌∷◌, ◌≡◌}

abbrev pub seek_renewal : (st : Setting) (es : Trace) (s : Session) (c : Submitted) → Option (LawfulRenewal st es s c)
seek_renewal st es s c = do
  standing ← seek_standing (stage_of es s)
  well ← seek_none (recovery_of st es s)
  d ← seek_some (delta_written c)
  written ← seek_some_delta (delta_written c) (delta_record (delta_of_session st s) Live (generation_of es s) (last_seq es s + 1) c.reading d.0.bitmap)
  Some (record { standing = standing; well = well; bitmap = d.0.bitmap; written = written })

abbrev pub seek_survey : (st : Setting) (es : Trace) (s : Session) (c : Submitted) → Option (LawfulSurvey st es s c)
seek_survey st es s c = do
  standing ← seek_standing (stage_of es s)
  path ← seek_text c.call.path s.path
  offset ← seek_same c.call.offset s.offset
  op ← seek_read_op c.call.op st.layout.hosts
  Some (record { standing = standing; whole = (path, offset, op) })

abbrev pub seek_delta_call : (st : Setting) (es : Trace) (s : Session) (c : Submitted) (p : Purpose) → Option (LawfulDeltaCall st es s c p)
seek_delta_call st es s c (Joining j step) = None
seek_delta_call st es s c Renewal = seek_renewal st es s c
seek_delta_call st es s c Survey = seek_survey st es s c
seek_delta_call st es s c (Leaving j) = None
seek_delta_call st es s c (Lease work step) = seek_none (delta_written c)
seek_delta_call st es s c (RequestRead j) = None
seek_delta_call st es s c (RequestWrite j o) = None
seek_delta_call st es s c SeeRequest = None
seek_delta_call st es s c (ValueWrite j) = None
seek_delta_call st es s c (ValueRead j) = None

-- A session of the setting has joined before.
pub given_joined : (es : Trace) (s : Session) → s.job ≡ None → (j k : ℕ) → s.job ≡ Some j → joined_after es s ≡ Some k → LawfulJoin es s k
given_joined es s none j k is joined = absurd cc

abbrev pub seek_join : (es : Trace) (s : Session) → Option ((j k : ℕ) → s.job ≡ Some j → joined_after es s ≡ Some k → LawfulJoin es s k)
seek_join es s = do
  none ← seek_none s.job
  Some (given_joined es s none)

abbrev pub seek_deltas : (st : Setting) (past : Trace) (e : Entry) → Option (LawfulDelta st past e)
seek_deltas st past e = do
  calls ← seek_each_call st (λ es s c. LawfulDeltaCall st es s c c.call.purpose) (λ es s c. seek_delta_call st es s c c.call.purpose) past e
  placed ← seek_each_call st
      (λ es s c. IsTrue (is_delta_purpose c.call.purpose && not (is_survey_purpose c.call.purpose)) → IsTrue (is_on_own_sector st s c))
      (λ es s c. seek_if (is_delta_purpose c.call.purpose && not (is_survey_purpose c.call.purpose)) (seek_true (is_on_own_sector st s c))) past e
  joins ← seek_each_session st (λ s. (j k : ℕ) → s.job ≡ Some j → joined_after (e ∷ past) s ≡ Some k → LawfulJoin (e ∷ past) s k) (seek_join (e ∷ past)) (e ∷ past)
  alone ← seek_each_call st (λ es s c. IsTrue (is_delta_purpose c.call.purpose) → has_open_delta es s ≡ false)
      (λ es s c. seek_if (is_delta_purpose c.call.purpose) (seek_false (has_open_delta es s))) past e
  Some (record { calls = calls; placed = placed; joins = joins; alone = alone })
