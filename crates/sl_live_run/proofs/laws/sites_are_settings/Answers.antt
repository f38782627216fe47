use Rattle.sl_live_run.proofs.SettingLaws.{sites_are_settings}
use Rattle.sl_live_run.proofs.laws.sites_are_settings.Goals as goal

pub returns : goal.returns
returns c = sites_are_settings
