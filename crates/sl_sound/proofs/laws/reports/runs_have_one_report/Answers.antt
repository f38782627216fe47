use Rattle.sl_sound.proofs.Reports.OneReport.{runs_have_one_report}
use Rattle.sl_sound.proofs.laws.reports.runs_have_one_report.Goals as goal

pub returns : goal.returns
returns c = runs_have_one_report
