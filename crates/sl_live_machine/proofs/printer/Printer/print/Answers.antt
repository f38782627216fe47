use Rattle.sl_book.specs.Logs.{entries}
use Rattle.sl_live_machine.proofs.PrintLaws.{moves_on, prints_on}
use Rattle.sl_live_machine.proofs.printer.Printer.print.Goals as goal
use Rattle.std.proofs.Common.{ap, refl, ◌+◌, ◌∙◌}

pub returns-clause-goes : goal.returns-clause-goes
returns-clause-goes g c = λ t a so.
    let first = c.args.self.now in
    prints_on t a first.mine c.hand_out.new.mine c.in-Ok.handed.items c.deref.result.now c.put.new.self _
    (c.in_ok-put.ensures.goes t a _
    (c.in_ok-go_on_each.ensures.goes t a (entries first.mine) (ap (λ n. n + 1) c.by.ensures)
    (moves_on t a (entries first.mine) first _ (record { audit = refl; reader = refl; wrong = refl }) refl refl so)))
    c.deref.ensures.value c.in-Ok.ensures.handed (c.put.ensures.mine ∙ c.go_on_each.ensures.mine) (record { audit = refl; reader = refl; wrong = refl }) refl refl
