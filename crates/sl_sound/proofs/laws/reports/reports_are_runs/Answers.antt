use Rattle.sl_sound.proofs.Reports.ReportsAreRuns.{reports_are_runs}
use Rattle.sl_sound.proofs.laws.reports.reports_are_runs.Goals as goal

pub returns : goal.returns
returns c = reports_are_runs
