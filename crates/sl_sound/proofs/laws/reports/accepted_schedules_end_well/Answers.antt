use Rattle.sl_sound.proofs.Reports.OneReport.{accepted_schedules_end_well}
use Rattle.sl_sound.proofs.laws.reports.accepted_schedules_end_well.Goals as goal

pub returns : goal.returns
returns c = accepted_schedules_end_well
