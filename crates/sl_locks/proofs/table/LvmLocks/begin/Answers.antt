use Rattle.sl_locks.proofs.table.LvmLocks.begin.Goals as goal
use Rattle.sl_locks.specs.Kinds.{line_of}
use Rattle.sl_locks.specs.Tables.{locks_of, lvm_of}
use Rattle.sl_run.specs.Lvm.{begins}
use Rattle.sl_run.specs.Locks.{after_turn}
use Rattle.std.proofs.Common.{ap, sym, ◌∙◌}

pub returns-in-Stop : goal.returns-in-Stop
unfolding begins
returns-in-Stop c = c.stop.ensures ∙ ap (λ k. after_turn (locks_of c.args.self.now) (begins (lvm_of c.args.self.now) (line_of k))) (sym c.in-Stop.is)

pub returns-in-Give : goal.returns-in-Give
unfolding begins
returns-in-Give c = c.give.ensures ∙ ap (λ k. after_turn (locks_of c.args.self.now) (begins (lvm_of c.args.self.now) (line_of k))) (sym c.in-Give.is)

pub returns-in-Write : goal.returns-in-Write
unfolding begins
returns-in-Write c = c.give_writing.ensures ∙ ap (λ k. after_turn (locks_of c.args.self.now) (begins (lvm_of c.args.self.now) (line_of k))) (sym c.in-Write.is)

pub returns-in-Deactivate : goal.returns-in-Deactivate
unfolding begins
returns-in-Deactivate c = c.deactivate.ensures ∙ ap (λ k. after_turn (locks_of c.args.self.now) (begins (lvm_of c.args.self.now) (line_of k))) (sym c.in-Deactivate.is)

pub returns-in-Inform : goal.returns-in-Inform
unfolding begins
returns-in-Inform c = c.inform.ensures ∙ ap (λ k. after_turn (locks_of c.args.self.now) (begins (lvm_of c.args.self.now) (line_of k))) (sym c.in-Inform.is)
