-- Whose a call is, and what it may write at all.
use Rattle.sl_run.specs.LawForms.{EachCall}
use Rattle.sl_sector.specs.Records.{IsRecord}
use Rattle.sl_sector.specs.declared.sector.Rec.{Rec}
use Rattle.sl_trace.specs.Sessions.{session_numbered, stage_of}
use Rattle.sl_trace.specs.declared.stage.Stage.TheVariants.{Ended, Freeing, Refused}
use Rattle.sl_trace.specs.declared.stage.Stage.{Stage}
use Rattle.sl_trace.specs.Traces.{Setting, Trace, record_of}
use Rattle.sl_trace.specs.declared.effects.Call.{Call}
use Rattle.sl_trace.specs.declared.effects.Entry.{Entry}
use Rattle.std.specs.Prelude.{Bool, Contains, IsSome, IsTrue, Some, false, true, ◌∷◌, ◌≡◌}

-- Whether a session may still submit calls.
abbrev pub may_submit : Stage → Bool
may_submit Freeing = false
may_submit Refused = false
may_submit Ended = false
may_submit stage = true

-- What every call keeps to.
pub record LawfulCalls (st : Setting) (past : Trace) (e : Entry) : Type 0 where
  -- a call of no session would be under no other law
  pub owned : (c : Call) → Contains e.effects.calls c → IsSome (session_numbered st (e ∷ past) c.session)
  -- others rely on it that a session which was refused, has ended or has written its free does nothing more
  pub alive : EachCall st (λ es s c. IsTrue (may_submit (stage_of es s))) past e
  -- what spells no record would land as torn bytes
  pub spelled : (c : Call) (r : Rec) → Contains e.effects.calls c → record_of c.op ≡ Some r → IsRecord r
