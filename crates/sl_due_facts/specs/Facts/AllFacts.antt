-- All that is known together: at each moment of a step, and of a trace at the end of an entry.
use Rattle.sl_due_facts.specs.Acts.TraceSoFar.{SoFar}
use Rattle.sl_due.specs.Steps.{Step, seen}
use Rattle.sl_run.specs.Lawful.{IsSetting, Lawful}
use Rattle.sl_due_facts.specs.Facts.CallFacts.{CallFacts}
use Rattle.sl_due_facts.specs.Facts.HeardCall.{heard_by}
use Rattle.sl_due_facts.specs.Facts.JobFacts.{JobFacts}
use Rattle.sl_due_facts.specs.Facts.GrantGrounds.{GrantGrounds}
use Rattle.sl_due_facts.specs.Facts.HoldingFacts.{HoldingFacts}
use Rattle.sl_due_facts.specs.Facts.LeaseFacts.{NumberFacts, TurnFacts}
use Rattle.sl_due_facts.specs.Facts.ValueFacts.{ValueFacts}
use Rattle.sl_due_facts.specs.Facts.WayFacts.{WayFacts}
use Rattle.sl_due_facts.specs.Facts.WorkFacts.{WorkFacts}
use Rattle.sl_due_facts.specs.Facts.SessionFacts.{ConnectionFacts, DeltaFacts, NameFacts, QuietFacts}
use Rattle.sl_trace.specs.Traces.{Setting, Trace}
use Rattle.std.specs.Prelude.{None, Option, ℕ}

-- The facts of a trace.
pub record Facts (st : Setting) (t : Trace) (heard : Option ℕ) : Type 0 where
  pub calls : CallFacts st t
  pub jobs : JobFacts st t heard
  pub quiet : QuietFacts st t heard
  pub names : NameFacts st t heard
  pub connections : ConnectionFacts st t heard
  pub delta : DeltaFacts st t
  pub turns : TurnFacts st t heard
  pub ways : WayFacts st t
  pub holdings : HoldingFacts st t heard
  pub works : WorkFacts st t heard
  pub grounds : GrantGrounds st t heard
  pub numbers : NumberFacts st t
  pub values : ValueFacts st t heard

-- At a moment of a step: what was done before it is lawful, the trace so far is orderly, and the facts hold.
pub record Whole (x : Step) : Type 0 where
  pub setting : IsSetting x.setting
  pub before : Lawful x.setting x.past
  pub orderly : SoFar x
  pub facts : Facts x.setting (seen x) (heard_by x.input)

-- Of a trace at the end of an entry.
pub record WholeTrace (st : Setting) (t : Trace) : Type 0 where
  pub setting : IsSetting st
  pub lawful : Lawful st t
  pub facts : Facts st t None
