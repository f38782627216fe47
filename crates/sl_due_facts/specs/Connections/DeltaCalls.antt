-- What is asked of one call on a delta sector, at the trace as it stands where the call is made.
use Rattle.sl_due.specs.Steps.{Step, seen}
use Rattle.sl_run.specs.LawfulCalls.{may_submit}
use Rattle.sl_run.specs.LawfulDelta.{LawfulDeltaCall, is_on_own_sector}
use Rattle.sl_sector.specs.declared.sector.DeltaRec.{DeltaRec}
use Rattle.sl_sector.specs.declared.sector.Rec.TheVariants.{DeltaIs}
use Rattle.sl_trace.specs.DeltaDecisions.{own_offset}
use Rattle.sl_trace.specs.Sessions.{has_open_delta, is_delta_purpose, is_survey_purpose, stage_of}
use Rattle.sl_trace.specs.declared.session.Session.{Session}
use Rattle.sl_trace.specs.Traces.{Setting, Submitted, Trace, new_call, next_call}
use Rattle.sl_trace.specs.declared.effects.Op.TheVariants.{ReadSectors, WriteRecord}
use Rattle.sl_trace.specs.declared.effects.Op.{Op}
use Rattle.sl_trace.specs.declared.effects.Purpose.TheVariants.{Survey}
use Rattle.sl_trace.specs.declared.effects.Purpose.{Purpose}
use Rattle.std.specs.Prelude.{IsTrue, false, length, not, ◌&&◌, ◌≡◌, ℕ}

-- The session may still call, and the call keeps the laws of delta sectors.
pub record DeltaLawful (st : Setting) (t : Trace) (s : Session) (c : Submitted) : Type 0 where
  pub alive : IsTrue (may_submit (stage_of t s))
  pub delta : LawfulDeltaCall st t s c c.call.purpose
  pub placed : IsTrue (is_delta_purpose c.call.purpose && not (is_survey_purpose c.call.purpose)) → IsTrue (is_on_own_sector st s c)
  pub alone : IsTrue (is_delta_purpose c.call.purpose) → has_open_delta t s ≡ false

-- The call that a session makes next on the disk of its lockspace.
abbrev pub next_made : Step → Session → Purpose → ℕ → Op → Submitted
next_made x s p offset op =
    new_call (length x.past) x.reading (record { number = next_call x.setting (seen x); session = s.number; purpose = p; path = s.path; offset = offset; op = op })

-- It writes its own sector.
abbrev pub own_write : Step → Session → Purpose → DeltaRec → Submitted
own_write x s p d = next_made x s p (own_offset x.setting s) (WriteRecord (DeltaIs d))

-- It reads its own sector.
abbrev pub own_read : Step → Session → Purpose → Submitted
own_read x s p = next_made x s p (own_offset x.setting s) (ReadSectors 1)

-- It reads all of them.
abbrev pub survey_read : Step → Session → Submitted
survey_read x s = next_made x s Survey s.offset (ReadSectors x.setting.layout.hosts)
