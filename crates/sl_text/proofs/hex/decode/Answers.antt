use Rattle.std.proofs.Common.{arith}
use Rattle.sl_text.proofs.HexLaws.{all_bytes, one_byte_more}
use Rattle.sl_text.proofs.hex.decode.Goals as goal

pub loop-index-preserved : goal.loop-index-preserved
loop-index-preserved c =
    one_byte_more c.args.word.now c.loop-index.out c.loop-index.index c.value_of.result c.value_of-in-loop-index.result (omega arith) (omega arith)
    c.loop-index.invariant c.value_of.ensures.value c.value_of-in-loop-index.ensures.value

pub returns : goal.returns
returns c = all_bytes c.args.word.now c.loop-index.out c.loop-index.index (omega arith) (omega arith) c.loop-index.invariant
