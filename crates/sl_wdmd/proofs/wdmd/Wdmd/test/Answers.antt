use Rattle.sl_trace.specs.WatchdogConnections.{Connection, test_holds}
use Rattle.sl_wdmd.proofs.KeptLaws.{any_expired}
use Rattle.sl_wdmd.proofs.TestLaws.{none_expired}
use Rattle.sl_wdmd.proofs.wdmd.Wdmd.test.Goals as goal
use Rattle.sl_wdmd.specs.KeptConnections.{WdmdState}
use Rattle.sl_wdmd.specs.Moves.{NoneExpired}
use Rattle.std.proofs.Common.{List, ap, ap₂, nat_le, not, subst, sym, true, ◌||◌, ◌∙◌, ◌≡◌, ◌↔◌}
use Rattle.std.specs.List.{list_any}

pub returns-clause-exact : goal.returns-clause-exact
returns-clause-exact c =
    let now = c.args.now in
    ap not
    (c.either.ensures
    ∙ ap₂ (λ a b. a || b) c.has_expired.ensures (c.some_expired.ensures ∙ ap (λ (cs : List Connection). list_any (λ x. nat_le x.expiry now) cs) c.deref.ensures.value)
    ∙ any_expired c.self.inside.expiries.entries c.self.inside.behind.items now)
    ∙ ap (λ (w : WdmdState). test_holds w.connections now) c.self.view_is

pub returns-clause-every : goal.returns-clause-every
returns-clause-every c =
    let now = c.args.now in
    subst (λ b. (b ≡ true) ↔ NoneExpired c.args.self.now.connections now) (sym (returns-clause-exact c)) (none_expired c.args.self.now.connections now)
