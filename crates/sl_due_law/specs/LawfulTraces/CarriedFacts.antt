-- All that is carried through a step and from entry to entry.
use Rattle.sl_due.specs.Steps.{Step}
use Rattle.sl_due_law.specs.LawfulTraces.LoneCalls.{Lones}
use Rattle.sl_due_leases.specs.Grants.GrantLaws.{ExitsSoFar}
use Rattle.sl_due_leases.specs.Holdings.Moments.{Known}
use Rattle.sl_due_facts.specs.Jobs.JobLaws.{IsQuiet}
use Rattle.sl_due_law.specs.Recovery.KillFacts.{KillFacts}
use Rattle.sl_due_law.specs.Recovery.RecoveryLaws.{StopsSoFar}
use Rattle.sl_due_law.specs.Recovery.Stops.{Denies, FreesEnd, Partings, Stops}
use Rattle.sl_due_facts.specs.Connections.DeltasSoFar.{CallsKept}
use Rattle.sl_due_facts.specs.Connections.MovedSoFar.{MovedSoFar}
use Rattle.sl_due_facts.specs.Connections.ConnectionLaws.{HasConnectionsPlainly}
use Rattle.sl_due_facts.specs.Connections.WatchFacts.{HasWatchFacts, HasWatchesPlainly, WatchFacts}
use Rattle.sl_due_facts.specs.Sessions.SessionLaws.{HasNamesPlainly}
use Rattle.sl_due_facts.specs.Facts.AllFacts.{WholeTrace}
use Rattle.sl_trace.specs.Traces.{Setting, Trace}
use Rattle.std.specs.Prelude.{None}

-- What is so of a trace at the end of each entry.
pub record Holds (st : Setting) (t : Trace) : Type 0 where
  pub whole : WholeTrace st t
  pub watches : WatchFacts st t None
  pub kills : KillFacts st t

-- What each act of a step keeps.
pub record Kept (x : Step) : Type 0 where
  pub known : Known x
  pub watches : HasWatchFacts x
  pub exits : ExitsSoFar x
  pub moved : MovedSoFar x
  pub stops : StopsSoFar x
  pub denies : Denies x
  pub partings : Partings x
  pub before : Holds x.setting x.past
  pub lones : Lones x
  pub delta_calls : CallsKept x

-- What is so besides where nothing is left of what an answer makes due.
pub record Rests (x : Step) : Type 0 where
  pub quiet : IsQuiet x
  pub names : HasNamesPlainly x
  pub connections : HasConnectionsPlainly x
  pub watches : HasWatchesPlainly x
  pub stops : Stops x None
  pub ends : FreesEnd x
