use Rattle.sl_alone.proofs.DeltaTold.{first_is}
use Rattle.sl_alone.proofs.delta_told.told.Goals as goal
use Rattle.sl_delta.specs.OwnSector.{answer_in}
use Rattle.std.proofs.Common.{sym, ◌∙◌}

pub returns-then-is_first_read : goal.returns-then-is_first_read
returns-then-is_first_read c =
    c.first_answered.ensures.state 0 ∙ first_is c.args.purpose.now (answer_in c.args.answer) c.args.now c.args.own.now (sym c.is_first_read.ensures ∙ c.if-is_first_read.true)
