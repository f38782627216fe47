use Rattle.sl_alone.proofs.ValuesMade.{value_made}
use Rattle.sl_alone.proofs.values.set.Goals as goal

pub returns-clause-rules : goal.returns-clause-rules
returns-clause-rules c =
    value_made c.args.host c.args.lver c.args.seq c.args.bytes.now _ c.requires.host c.requires.lver c.requires.seq c.requires.few (λ i. (c.type_inv.bytes i).fits)
    c.in-Some.ensures.found.0
