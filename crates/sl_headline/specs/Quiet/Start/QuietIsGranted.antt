-- A quiet acquire is granted: the whole of it, over every lawful run whose daemons are made as they should be and do what is due.
use Rattle.sl_headline.specs.Quiet.Events.LeadsToGrants.{AreWellMade}
use Rattle.sl_run.specs.Quiet.{QuietIsGranted}
use Rattle.sl_run.specs.Runs.{Happening}
use Rattle.sl_run.specs.Safety.{LawfulRun}
use Rattle.sl_run.specs.Worlds.{Program, world_with}
use Rattle.sl_run.specs.declared.header.Header.{Header}
use Rattle.std.specs.Prelude.{List}

-- A program whose commands are well read is asked for besides: what is due is known of such daemons alone.
abbrev pub QuietAcquiresAreGranted : Type 0
QuietAcquiresAreGranted = (p : Program) (h : Header) (xs : List Happening) → LawfulRun p h xs → AreWellMade p h xs → QuietIsGranted (world_with p h) xs
