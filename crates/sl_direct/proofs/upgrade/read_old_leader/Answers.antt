-- Another leader is there, or none.
use Rattle.sl_direct.proofs.UpgradeLaws.{tells_other}
use Rattle.sl_direct.proofs.upgrade.read_old_leader.Goals as goal
use Rattle.std.proofs.Common.{length, rules, ◌≡◌}
use Rattle.std.proofs.lemmas.Result.{IfErr-weaker}

pub returns-in-Ok-clause-err : goal.returns-in-Ok-clause-err
returns-in-Ok-clause-err g c =
    let sector = c.read.new.buffer in
    let long : length sector ≡ c.args.geometry.sector = search rules in
    IfErr-weaker c.tell_old_leader.result _ _
    (λ d h.
    tells_other c.args.resource.now c.args.geometry (g.A.Area.content c.args.area.now) (g.A.Area.content c.read.new.self) c.leader_place.result c.hosts.result sector
    c.tell_old_leader.new.out.items d c.read.ensures.kept c.leader_place.ensures c.hosts.ensures.exact long c.in-Ok.ensures.bytes h)
    c.tell_old_leader.ensures.err
