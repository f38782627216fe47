-- What a drawing owes: what it read and wrote, and its status.
use Rattle.sl_draw.specs.Drawings.{PictureOwed}
use Rattle.sl_headline.specs.PromisedRuns.{PromisedRun}
use Rattle.sl_io.specs.FaultCauses.{Rose}
use Rattle.sl_picture.specs.declared.kept.Part.{Part}
use Rattle.sl_report.specs.Languages.{whole_language}
use Rattle.sl_report.specs.OwedReports.{MayHaveBeen, is_whole_status}
use Rattle.sl_sound.specs.Reports.ReportLaws.{replay_status}
use Rattle.sl_top.specs.Statuses.{code}
use Rattle.sl_top.specs.declared.status.Status.TheVariants.{Done, ReadFault, WriteFault}
use Rattle.sl_top.specs.declared.status.Status.{Status}
use Rattle.std.specs.Io.KnownBytes.{Appends, Consumes, IsAtEnd}
use Rattle.std.specs.Prelude.{Bool, IsTrue, List, Option, true, ℕ, ◌≡◌}

pub record Draws (part : Part) (left after : Option (List ℕ)) (faults later : ℕ) (taken now : Option (List ℕ)) (sink_faults sink_later : ℕ) (s : Status) : Type 0 where
  -- what was read, whether the source ended with it, and what was written
  pub read : List ℕ
  pub ended : Bool
  pub written : List ℕ
  pub reads : Consumes left after read
  pub at_end : IsTrue ended → IsAtEnd after
  pub writes : Appends taken now written
  -- the bytes written are the picture of these lines, each with what the report of a promised run tells of it; or, by the status, a front of it,
  -- or nothing
  pub owed : PictureOwed PromisedRun whole_language part ended read written (code s)
  -- a status that tells of a whole picture is that of the source's replay
  pub own : IsTrue (is_whole_status (code s)) → (source : List ℕ) → MayHaveBeen ended read source → code s ≡ replay_status whole_language source
  -- at status 0 the source was read to its end
  pub to_end : s ≡ Done → ended ≡ true
  -- a fault is told only where one was counted
  pub read_fault : s ≡ ReadFault → Rose faults later
  pub write_fault : s ≡ WriteFault → Rose sink_faults sink_later
