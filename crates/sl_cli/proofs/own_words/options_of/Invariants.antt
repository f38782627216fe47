-- What the options so far say goes on as all of them do.
use Rattle.sl_cli.proofs.own_words.options_of.Given as goal
use Rattle.sl_cli.specs.OwnWords.{no_options, options_from}
use Rattle.std.proofs.Common.{drop, map, ◌≡◌}
use Rattle.std.specs.Prelude.{string_bytes}

abbrev pub invariant-loop-word : goal.invariant-loop-word
invariant-loop-word l = options_from no_options (map string_bytes l.words) ≡ options_from l.options (map string_bytes (drop l.word-index l.words))
