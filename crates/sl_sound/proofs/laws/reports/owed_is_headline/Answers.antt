use Rattle.sl_sound.proofs.Reports.OneReport.{owed_is_headline}
use Rattle.sl_sound.proofs.laws.reports.owed_is_headline.Goals as goal

pub returns : goal.returns
returns c = owed_is_headline
