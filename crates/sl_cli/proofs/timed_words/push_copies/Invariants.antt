-- Copies of the words so far stand behind what was there.
use Rattle.sl_cli.proofs.timed_words.push_copies.Given as goal
use Rattle.std.proofs.Common.{map, take, ◌++◌, ◌≡◌}
use Rattle.std.specs.Prelude.{string_bytes}

abbrev pub invariant-loop-word : goal.invariant-loop-word
invariant-loop-word l = map string_bytes l.copies.items ≡ map string_bytes l.fn.copies.items ++ map string_bytes (take l.word-index l.words)
