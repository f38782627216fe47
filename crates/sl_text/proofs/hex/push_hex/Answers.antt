use Rattle.std.proofs.Common.{arith}
use Rattle.sl_text.proofs.HexLaws.{all_bytes_written, one_byte_written}
use Rattle.sl_text.proofs.hex.push_hex.Goals as goal

pub digit_of-requires : goal.digit_of-requires
digit_of-requires c = omega arith

pub digit_of-requires-in-loop-byte : goal.digit_of-requires-in-loop-byte
digit_of-requires-in-loop-byte c = omega arith

pub unreachable-requires : goal.unreachable-requires
unreachable-requires c = omega (arith, c.in-Err.ensures.full)

pub loop-byte-smaller : goal.loop-byte-smaller
loop-byte-smaller c = omega arith

pub loop-byte-preserved : goal.loop-byte-preserved
loop-byte-preserved c =
    record {
      written = one_byte_written c.args.out.now.items c.loop-byte.out.items c.extend_from_slice.new.self.items c.args.bytes.now c.loop-byte.byte-index
          c.digit_of.result c.digit_of-in-loop-byte.result c.loop-byte-test.true c.loop-byte.invariant.written c.digit_of.ensures
          c.digit_of-in-loop-byte.ensures c.in-Ok.ensures.items;
      room = omega (arith, c.in-Ok.ensures.len, c.in-Ok.ensures.capacity, c.loop-byte.invariant.room);
    }

pub returns-clause-ok : goal.returns-clause-ok
returns-clause-ok c = all_bytes_written c.args.out.now.items c.loop-byte.out.items c.args.bytes.now c.loop-byte.byte-index c.loop-byte-test.false c.loop-byte.invariant.written
