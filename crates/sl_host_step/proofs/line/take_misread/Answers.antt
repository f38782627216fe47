use Rattle.sl_host_step.proofs.MomentsFollow.{line_ends}
use Rattle.sl_host_step.proofs.line.take_misread.Goals as goal
use Rattle.std.specs.Prelude.{Err}

pub returns-clause-at : goal.returns-clause-at
returns-clause-at c now text first says a =
    line_ends now text (Err c.args.column) first c.args.host.now c.misread.new.host says a c.misread.ensures.state c.misread.ensures.run
