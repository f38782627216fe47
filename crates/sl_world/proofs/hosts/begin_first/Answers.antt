use Rattle.sl_world_state.specs.Daemons.{begun_with}
use Rattle.sl_run.specs.Lawful.{IsSetting}
use Rattle.sl_world.proofs.hosts.begin_first.Goals as goal
use Rattle.sl_world_law.proofs.FirstDaemons.{first_settings}
use Rattle.std.proofs.Common.{ap, subst, sym, ◌∙◌}
use Rattle.std.specs.Option.{option_copied}

pub begin-requires : goal.begin-requires
begin-requires g c = (
  c.requires.0,
  subst (λ s. IsSetting (begun_with g.D.Daemon.commands c.args.header.now s)) (sym c.in_ok-site-in-Some.ensures)
      (first_settings g.D.Daemon.commands c.args.header.now c.requires.0 c.requires.1 c.args.machine c.in-Some.session.now
      (sym c.session_of.ensures ∙ ap option_copied c.in-Some.is)),
)
