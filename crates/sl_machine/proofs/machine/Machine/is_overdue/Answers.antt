use Rattle.sl_machine.proofs.PassLaws.{overdue_late}
use Rattle.sl_machine.proofs.machine.Machine.is_overdue.Goals as goal
use Rattle.sl_machine.specs.Machines.{machine_state}
use Rattle.sl_words.specs.Words.{some_is}
use Rattle.std.proofs.Common.{ap, nat_lt, sym, ◌+◌, ◌∙◌}

pub returns : goal.returns
unfolding machine_state
returns g c =
    c.is_past.ensures
    ∙ ap (some_is (λ r. nat_lt (r + c.args.land) c.args.moment)) c.late.ensures
    ∙ sym (overdue_late c.args.land c.args.moment c.args.self.now.flights.items.items)
