use Rattle.sl_drawing.proofs.elements.push_escaped.Given as goal
use Rattle.sl_drawing.specs.Elements.{escaped}
use Rattle.std.proofs.Common.{take, ◌++◌, ◌≡◌}

abbrev pub invariant-loop-byte : goal.invariant-loop-byte
invariant-loop-byte l = l.out.items ≡ l.fn.out.items ++ escaped (take l.byte-index l.text)
