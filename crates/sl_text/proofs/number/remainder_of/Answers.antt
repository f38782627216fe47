use Rattle.std.proofs.Common.{arith}
use Rattle.sl_text.proofs.NumberLaws.{remainder_next, remainder_whole}
use Rattle.sl_text.proofs.number.remainder_of.Goals as goal

pub loop-byte-smaller : goal.loop-byte-smaller
loop-byte-smaller c = omega arith

pub loop-byte-preserved : goal.loop-byte-preserved
loop-byte-preserved c =
    remainder_next c.args.digits.now c.loop-byte.byte-index c.loop-byte.remainder c.remainder_with_digit-remainder.result c.digit_of.result c.args.step
    c.loop-byte-test.true c.loop-byte.invariant c.digit_of.ensures c.remainder_with_digit-remainder.ensures

pub returns : goal.returns
returns c = remainder_whole c.args.digits.now c.loop-byte.byte-index c.loop-byte.remainder c.args.step c.loop-byte-test.false c.loop-byte.invariant
