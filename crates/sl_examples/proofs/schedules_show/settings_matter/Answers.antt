use Rattle.sl_examples.proofs.SettingsMatter as its
use Rattle.sl_examples.proofs.schedules_show.settings_matter.Goals as goal

pub returns : goal.returns
returns c = its.settings_matter
