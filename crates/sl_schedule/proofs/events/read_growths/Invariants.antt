use Rattle.sl_schedule.proofs.events.read_growths.Given as goal
use Rattle.sl_text.specs.Numbers.{capped_long, is_number_text}
use Rattle.std.proofs.Common.{length, map, vec_len, ◌+◌, ◌++◌, ◌≡◌}
use Rattle.std.specs.List.{list_all}

abbrev pub invariant-loop-word : goal.invariant-loop-word
invariant-loop-word l = record {
  made : l.growths.items ++ map capped_long l.words.words ≡ map capped_long l.fn.words.words;
  numbers : list_all is_number_text l.words.words ≡ list_all is_number_text l.fn.words.words;
  count : vec_len l.growths + length l.words.words ≡ length l.fn.words.words;
}

abbrev pub decreases-loop-word : goal.decreases-loop-word
decreases-loop-word l = length l.words.words
