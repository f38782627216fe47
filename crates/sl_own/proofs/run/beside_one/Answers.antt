-- It was done to the machine, beside the script.
use Rattle.sl_own.proofs.run.beside_one.Goals as goal
use Rattle.std.proofs.Common.{rules, subst}
use Rattle.std.specs.Fork.{ChangesAt}

pub returns-clause-ran : goal.returns-clause-ran
returns-clause-ran g c = subst (λ m. ChangesAt g.F.Fn c.args.run.now c.args.place c.args.machine.now m) (search rules) c.beside_script.ensures.rest.met.1
