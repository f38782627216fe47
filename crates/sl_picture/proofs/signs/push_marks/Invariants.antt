use Rattle.sl_picture.proofs.signs.push_marks.Given as goal
use Rattle.sl_picture.specs.Signs.{marks_text}
use Rattle.std.proofs.Common.{take, ◌++◌, ◌≡◌}

abbrev pub invariant-loop-mark : goal.invariant-loop-mark
invariant-loop-mark l = l.out.items ≡ l.fn.out.items ++ marks_text l.layout (take l.mark-index l.marks)
