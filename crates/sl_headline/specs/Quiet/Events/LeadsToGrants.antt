-- Along quiet events an acquire on its course stays on it until it is granted.
use Rattle.sl_headline.specs.Quiet.Events.CarriedStages.{Asked, OnCourse, Stage}
use Rattle.sl_headline.specs.Quiet.Events.AnswersShow.{IsGrantedThere}
use Rattle.sl_headline.specs.Quiet.Events.AreaGoesOn.{IsLineOf, IsWellMade}
use Rattle.sl_run.specs.Quiet.{StaysQuiet}
use Rattle.sl_run.specs.Runs.{EachDaemon, Happening}
use Rattle.sl_run.specs.Safety.{LawfulRun, world_at}
use Rattle.sl_run.specs.Worlds.{Program}
use Rattle.sl_run.specs.declared.header.Header.{Header}
use Rattle.sl_run.specs.declared.header.ResourceLine.{ResourceLine}
use Rattle.std.specs.Prelude.{List, ◌++◌, ◌≡◌}

-- All along the run each daemon is made as it should be, and does what is due.
abbrev pub AreWellMade : Program → Header → List Happening → Type 0
AreWellMade p h xs = (front rest : List Happening) → xs ≡ front ++ rest → EachDaemon IsWellMade (world_at p h front)

-- After these events the acquire is on its course, or by one of them it was granted.
pub data Comes (p : Program) (h : Header) (now during : List Happening) (q : Asked) : Type 0 where
  Is_on_course : (stage : Stage) → OnCourse (world_at p h (now ++ during)) q stage → Comes p h now during q
  Was_granted : (front rest : List Happening) → during ≡ front ++ rest → IsGrantedThere (world_at p h (now ++ front)) q → Comes p h now during q

abbrev pub CoursesLeadToGrants : Type 0
CoursesLeadToGrants =
    (p : Program) (h : Header) (now during : List Happening) → LawfulRun p h (now ++ during) → AreWellMade p h (now ++ during) → (q : Asked) (stage : Stage) (line : ResourceLine) → IsLineOf h q.resource line
    → OnCourse (world_at p h now) q stage → StaysQuiet (world_at p h now) during q.machine q.job q.resource q.shared q.process q.session.number → Comes p h now during q
