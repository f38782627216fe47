use Rattle.sl_locks.proofs.StepLaws.{quiet_step}
use Rattle.sl_locks.proofs.table.LvmLocks.turn_numbered.Goals as goal
use Rattle.std.proofs.Common.{None, sym, ◌∙◌}

pub returns-then-is_quiet : goal.returns-then-is_quiet
returns-then-is_quiet c =
    quiet_step c.args.input.now c.args.told.now.effects c.args.self.now c.end_by.new.self (sym c.is_quiet.ensures ∙ c.if-is_quiet.true) (c.end_by.ensures None)
