use Rattle.sl_picture.proofs.said.words_behind.Given as goal
use Rattle.sl_text.specs.Forms.{words_of}
use Rattle.std.proofs.Common.{drop, ◌≡◌}

abbrev pub invariant-loop : goal.invariant-loop
invariant-loop l = l.words.words ≡ drop l.counter (words_of l.line)
