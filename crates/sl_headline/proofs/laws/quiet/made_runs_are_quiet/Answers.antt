use Rattle.sl_headline.proofs.Quiet.Start.MadeRunsQuiet.{made_runs_are_quiet}
use Rattle.sl_headline.proofs.laws.quiet.made_runs_are_quiet.Goals as goal

pub returns : goal.returns
returns g c = made_runs_are_quiet g.D.Daemon.stands
