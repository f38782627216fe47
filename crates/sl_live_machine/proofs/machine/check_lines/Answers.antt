use Rattle.sl_live_machine.proofs.PrintLaws.{lines_right}
use Rattle.sl_live_machine.proofs.machine.check_lines.Goals as goal

pub returns-in-None-clause-goes : goal.returns-in-None-clause-goes
returns-in-None-clause-goes g c = λ t a h so. lines_right t a h c.args.printer.now c.in_default.is so c.in-None.ensures.none
