use Rattle.sl_host_lines.specs.LeavingsBegin.{line_cost}
use Rattle.sl_host_step.proofs.MomentsFollow.{line_ends}
use Rattle.sl_host_step.proofs.LinePremises.{cost_within, line_fits, line_known_at, line_leaves}
use Rattle.sl_host_step.proofs.line.take_command.Goals as goal
use Rattle.sl_host_step.specs.InputReach.{reach_of}
use Rattle.std.specs.Prelude.{Ok}

pub take_line-requires-clause-left : goal.take_line-requires-clause-left
take_line-requires-clause-left c =
    let k = c.args.host.now.kept in
    let left = c.requires.left in
    line_fits (reach_of c.args.command.now) (line_cost k (Ok c.args.command.now)) left.0 c.args.host.now left.1 (cost_within k c.args.command.now)

pub take_line-requires-clause-known : goal.take_line-requires-clause-known
take_line-requires-clause-known c = let at = c.requires.at in line_known_at at.0 at.1 at.2 c.args.host.now.kept c.args.command.now at.4 at.3

pub returns-clause-at : goal.returns-clause-at
returns-clause-at c now text first says a =
    line_ends now text (Ok c.args.command.now) first c.args.host.now c.take_line.new.host says a c.take_line.ensures.state c.take_line.ensures.run

pub returns-clause-left : goal.returns-clause-left
returns-clause-left c first left =
    line_leaves (reach_of c.args.command.now) (line_cost c.args.host.now.kept (Ok c.args.command.now)) first c.args.host.now c.take_line.new.host left
    (cost_within c.args.host.now.kept c.args.command.now) c.take_line.ensures.left c.take_line.ensures.run
