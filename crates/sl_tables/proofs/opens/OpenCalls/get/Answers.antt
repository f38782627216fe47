use Rattle.sl_tables.proofs.NumbersName.{found_by_number}
use Rattle.sl_tables.proofs.opens.OpenCalls.get.Goals as goal
use Rattle.std.proofs.Common.{ap, find, ◌==◌, ◌∙◌}

pub returns : goal.returns
returns c = c.get.ensures.value ∙ found_by_number (λ d. d.number) c.args.number c.self.inside.calls.items c.self.invariant.0 ∙ ap (λ v. find (λ d. d.number == c.args.number) v.calls) c.self.view_is
