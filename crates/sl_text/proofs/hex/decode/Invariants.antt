use Rattle.std.proofs.Common.{take, ◌≡◌}
use Rattle.sl_text.specs.Numbers.{hex_bytes}
use Rattle.sl_text.proofs.hex.decode.Given as goal

abbrev pub invariant-loop-index : goal.invariant-loop-index
invariant-loop-index l = take l.index l.out ≡ take l.index (hex_bytes l.word)
