use Rattle.sl_delta.proofs.RecordRules.{hosts_few, record_is}
use Rattle.sl_delta.proofs.own_sector.OwnSector.record.Goals as goal
use Rattle.sl_words.specs.Bounds.{most_hosts}
use Rattle.std.proofs.Common.{arith, ◌≤◌}

pub returns-clause-rules : goal.returns-clause-rules
returns-clause-rules c =
    λ some gen sq moment.
    let few : c.self.inside.geometry.hosts ≤ most_hosts = hosts_few c.self.inside.geometry c.hosts-hosts.ensures.geometry in
    record_is c.args.state c.self.inside.id c.args.generation c.args.seq c.args.now c.self.inside.lockspace c.self.inside.host c.bytes.result
    c.self.invariant.place.0 (omega (arith, c.self.invariant.place.1, few)) c.self.invariant.named.0 c.self.invariant.named.1 c.bytes.ensures.rule some gen sq moment
