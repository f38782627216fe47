-- The leader is the one that the sector spells.
use Rattle.sl_direct.proofs.UpgradeLaws.{leader_kept}
use Rattle.sl_direct.proofs.upgrade.tell_old_leader.Goals as goal
use Rattle.sl_direct.specs.Upgrades.{old_leader_in, right_leader}
use Rattle.sl_sector.specs.Records.{IsLeader}
use Rattle.std.proofs.Common.{Some, ap, subst, sym, ◌∙◌, ◌≡◌}
use Rattle.std.specs.Prelude.{IfOk}

pub returns-in-Some-clause-ok : goal.returns-in-Some-clause-ok
returns-in-Some-clause-ok c =
    let r = c.args.resource.now in
    let found = old_leader_in c.args.sector.now in
    let is : right_leader r c.args.hosts found ≡ Some c.in-Some.leader =
    ap (right_leader r c.args.hosts) (sym c.old_leader_in-found.ensures.exact) ∙ sym c.right_leader.ensures ∙ c.in-Some.is in
    (is, leader_kept r c.args.hosts found c.in-Some.leader (subst (λ x. IfOk x (λ l. IsLeader l)) c.old_leader_in-found.ensures.exact c.old_leader_in-found.ensures.rules) is)
