use Rattle.sl_live_machine.proofs.PrintLaws.{puts_on}
use Rattle.sl_live_machine.proofs.printer.Printer.put.Goals as goal
use Rattle.std.proofs.Common.{[], refl, ◌≡◌}

pub returns-in-Ok-clause-goes : goal.returns-in-Ok-clause-goes
returns-in-Ok-clause-goes g c = λ t a h so.
    let all : c.new.result ≡ c.args.self.now.text.items = cc in
    let none : c.replace-text.new.dest.items ≡ [] = cc in
    (puts_on t a h c.args.self.now _ c.new.result so c.in-Ok.ensures.put all none (record { audit = refl; reader = refl; wrong = refl }), none)
