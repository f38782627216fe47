use Rattle.sl_sector.proofs.TextLaws.{pushed_bits}
use Rattle.sl_sector.proofs.texts.push_bits.Goals as goal

pub returns : goal.returns
returns c =
    pushed_bits c.args.bits.now c.in-Some.rest.now c.in-Some.first.now c.args.line.now.items _ _ _ c.in-Some.ensures.cases.0 c.in_ok-extend_from_slice.ensures.items c.in_ok-push_decimal.ensures c.in_ok-push_listed.ensures
