-- From the header on.
use Rattle.sl_generate.proofs.DrawnEvents.{first_drawing, seed_drawn}
use Rattle.sl_generate.proofs.generator.play_seed.Goals as goal
use Rattle.sl_world_state.specs.SaneWorlds.{ReadsCommands}
use Rattle.sl_play.specs.Plays.{state_of}
use Rattle.sl_run.specs.Headers.{IsHeader}
use Rattle.std.proofs.Common.{subst, sym}

pub new-requires : goal.new-requires
new-requires g c = (subst IsHeader (sym c.in_ok-header.ensures) c.requires.header, subst (ReadsCommands g.D.Daemon.commands) (sym c.in_ok-header.ensures) c.requires.reads)

pub take_events-requires : goal.take_events-requires
take_events-requires g c =
    first_drawing g.D.Daemon.commands g.D.Daemon.stands c.in_ok-header.header (state_of g.L.LockTable.locks c.in_ok-play.play) c.in_ok-play.ensures

pub returns : goal.returns
returns g c =
    seed_drawn g.D.Daemon.commands g.D.Daemon.stands c.in_ok-header.header (state_of g.L.LockTable.locks c.in_ok-play.play) (state_of g.L.LockTable.locks c.take_events.new.play) c.args.seed
    c.args.hosts c.args.events c.args.paired c.counts.result.now c.in_ok-header.ensures c.in_ok-play.ensures c.in_ok-take_events.ensures c.counts.ensures
