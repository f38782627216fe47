-- What the calls of the entry so far keep to on delta sectors, and what is known where one more is made.
use Rattle.sl_due_facts.specs.Acts.Acts.{Acts}
use Rattle.sl_due_facts.specs.Acts.TraceSoFar.{entry_of}
use Rattle.sl_due.specs.Steps.{Step}
use Rattle.sl_due_facts.specs.Jobs.JobLaws.{BeginsWith}
use Rattle.sl_run.specs.LawfulDelta.{LawfulDeltaCall, is_on_own_sector}
use Rattle.sl_run.specs.LawForms.{EachCall}
use Rattle.sl_due_facts.specs.Connections.WatchFacts.{HasWatchFacts}
use Rattle.sl_trace.specs.Sessions.{has_open_delta, is_delta_purpose, is_join_call, is_survey_purpose, joined_after, recovery_of}
use Rattle.sl_trace.specs.declared.session.Session.{Session}
use Rattle.sl_due_facts.specs.Facts.SessionFacts.{ConnectionFacts, NameFacts}
use Rattle.sl_due_facts.specs.Facts.AllFacts.{Whole}
use Rattle.sl_trace.specs.Traces.{Setting, Submitted, Trace}
use Rattle.sl_trace.specs.declared.effects.JoinStep.TheVariants.{FirstRead}
use Rattle.std.specs.Prelude.{IsTrue, None, false, not, ◌&&◌, ◌≡◌}

-- A look at all ids is made out of recovery; a first read, by a session that has not joined.
pub record DeltaKept (st : Setting) (t : Trace) (s : Session) (c : Submitted) : Type 0 where
  pub delta : LawfulDeltaCall st t s c c.call.purpose
  pub placed : IsTrue (is_delta_purpose c.call.purpose && not (is_survey_purpose c.call.purpose)) → IsTrue (is_on_own_sector st s c)
  pub alone : IsTrue (is_delta_purpose c.call.purpose) → has_open_delta t s ≡ false
  pub well : IsTrue (is_survey_purpose c.call.purpose) → recovery_of st t s ≡ None
  pub early : IsTrue (is_join_call FirstRead c.call.purpose) → joined_after t s ≡ None

abbrev pub CallsKept : Step → Type 0
CallsKept x = EachCall x.setting (DeltaKept x.setting) x.past (entry_of x)

-- What was known before the step.
pub record HasPast (x : Step) : Type 0 where
  pub names : NameFacts x.setting x.past None
  pub connections : ConnectionFacts x.setting x.past None

pub record KnowsCalls (x : Step) : Type 0 where
  pub whole : Whole x
  pub reads : HasWatchFacts x
  pub past : HasPast x
  pub kept : CallsKept x

-- Each call of the entry so far keeps the law of delta sectors, after each act.
abbrev pub CallsAreKept : Type 0
CallsAreKept = Acts KnowsCalls CallsKept

abbrev pub CallsBegin : Type 0
CallsBegin = BeginsWith CallsKept
