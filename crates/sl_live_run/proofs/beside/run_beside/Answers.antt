use Rattle.sl_live_run.proofs.beside.run_beside.Goals as goal
use Rattle.std.proofs.Common.{rules, subst}
use Rattle.std.specs.Fork.{ChangesEach}

pub returns-clause-each : goal.returns-clause-each
returns-clause-each g c =
    subst (λ ms. ChangesEach g.F.Fn c.args.run.now c.args.machines.now ms) (search rules) c.beside_script.ensures.rest.met.1.1
