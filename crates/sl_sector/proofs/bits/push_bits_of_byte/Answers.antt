use Rattle.sl_sector.proofs.BitLaws.{all_bits_pushed, more_bits, no_bits_pushed}
use Rattle.std.proofs.Common.{arith}
use Rattle.sl_sector.proofs.bits.push_bits_of_byte.Goals as goal

pub has_bit-requires : goal.has_bit-requires
has_bit-requires c = c.loop-j-test.true

pub overflow_mul-i : goal.overflow_mul-i
overflow_mul-i c = omega arith

pub overflow_add-i : goal.overflow_add-i
overflow_add-i c = omega arith

pub overflow_add-i-in-loop-j : goal.overflow_add-i-in-loop-j
overflow_add-i-in-loop-j c = omega arith

pub loop-j-smaller : goal.loop-j-smaller
loop-j-smaller c = omega arith

pub loop-j-preserved : goal.loop-j-preserved
loop-j-preserved c = more_bits _ _ _ c.args.i c.args.byte c.loop-j.j _ c.loop-j.invariant c.has_bit.ensures c.in_ok-push_if.ensures

pub returns-after-loop-j : goal.returns-after-loop-j
returns-after-loop-j c = all_bits_pushed c.args.bits.now.items c.loop-j.bits.items c.args.i c.args.byte c.loop-j.j c.if-byte-ne0.true (omega arith) c.loop-j.invariant

pub returns-else-byte-ne0 : goal.returns-else-byte-ne0
returns-else-byte-ne0 c = no_bits_pushed c.args.bits.now.items c.args.i c.args.byte c.if-byte-ne0.false
