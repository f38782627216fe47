use Rattle.sl_live_machine.proofs.PrintLaws.{finds_wrong, goes_on, stays_wrong}
use Rattle.sl_live_machine.proofs.printer.Printer.go_on.Goals as goal
use Rattle.std.proofs.Common.{refl, sym, ◌∙◌}

pub returns-then-is_some-clause-goes : goal.returns-then-is_some-clause-goes
returns-then-is_some-clause-goes g c = λ t a h number so. stays_wrong t a h c.args.entry.now c.args.self.now (sym c.is_some.ensures ∙ c.if-is_some.true) so

pub returns-then-fit-clause-goes : goal.returns-then-fit-clause-goes
returns-then-fit-clause-goes g c = λ t a h number so.
    goes_on t a h c.args.entry.now c.args.self.now _ c.next_line-next.result c.args.machine (sym c.is_some.ensures ∙ c.if-is_some.false) number so c.next_line-next.ensures.meets
    (c.in_ok-fit.ensures.own c.if-fit.true)
    (record { text = c.in_ok-step.ensures.text; audit = λ v b es is. c.in_ok-step.ensures.on v b es is (c.in_ok-fit.ensures.ask c.if-fit.true); wrong = refl })
    (record { writer = refl; by = c.next_line-next.ensures.by })

pub returns-clause-goes : goal.returns-clause-goes
returns-clause-goes g c = λ t a h number so.
    finds_wrong t a h c.args.entry.now c.args.self.now _ c.next_line-next.result c.entries.result c.in_ok-number.number (sym c.is_some.ensures ∙ c.if-is_some.false) so
    c.next_line-next.ensures.meets (c.in_ok-fit.ensures.other c.if-fit.false) c.entries.ensures c.in_ok-number.ensures refl
    (record { writer = refl; by = c.next_line-next.ensures.by })
