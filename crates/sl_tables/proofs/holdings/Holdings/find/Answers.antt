use Rattle.sl_tables.proofs.HoldingsStand.{first_has, none_has}
use Rattle.sl_tables.proofs.holdings.Holdings.find.Goals as goal
use Rattle.sl_tables.specs.Holdings.{fits}
use Rattle.std.proofs.Common.{ap, find, sym, ◌∙◌}

pub returns-in-Some : goal.returns-in-Some
returns-in-Some c =
    c.get.ensures.value
    ∙ (first_has (fits c.args.sought.now) c.self.inside.held.items c.in-Some.number c.get.ensures.rising (sym c.in-Some.ensures)
    ∙ ap (λ v. find (fits c.args.sought.now) v.held) c.self.view_is)

pub returns-in-None : goal.returns-in-None
returns-in-None c =
    sym (none_has (fits c.args.sought.now) c.self.inside.held.items (sym c.in-None.ensures)) ∙ ap (λ v. find (fits c.args.sought.now) v.held) c.self.view_is
