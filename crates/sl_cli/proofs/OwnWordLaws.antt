-- The options of one machine are what one word says after the other.
use Rattle.sl_cli.specs.OwnWords.{Options, options_from, with_word}
use Rattle.std.proofs.Common.{List, None, Option, Some, [], ap, drop, get_or, length, map, sym, ℕ, ◌+◌, ◌<◌, ◌≡◌, ◌≤◌, ◌∙◌, ◌∷◌}
use Rattle.std.proofs.lemmas.List.{drop_all, drop_more}
use Rattle.std.specs.Global.{Global}
use Rattle.std.specs.Prelude.{String, option_and_then, string_bytes}

-- What options say with the words from a place on.
abbrev pub from_place : List (String Global) → ℕ → Options → Option Options
from_place ws i o = options_from o (map string_bytes (drop i ws))

module _ (ws : List (String Global)) (i : ℕ) (all : Option Options) (o : Options) where
  -- The next word says something: so do all from there on, with it.
  pub one_more : (w : String Global) (next : Options) → i < length ws → w ≡ get_or ws i w → with_word o (string_bytes w) ≡ Some next → all ≡ from_place ws i o
      → all ≡ from_place ws (i + 1) next
  one_more w next inside here says so_far =
      so_far ∙ ap (λ rest. options_from o (map string_bytes rest)) (drop_more ws i w inside)
      ∙ ap (λ v. options_from o (string_bytes v ∷ map string_bytes (drop (i + 1) ws))) (sym here)
      ∙ ap (λ p. option_and_then (λ n. options_from n (map string_bytes (drop (i + 1) ws))) p) says

  -- It says nothing.
  pub none_more : (w : String Global) → i < length ws → w ≡ get_or ws i w → with_word o (string_bytes w) ≡ None → all ≡ from_place ws i o → all ≡ None
  none_more w inside here says so_far =
      so_far ∙ ap (λ rest. options_from o (map string_bytes rest)) (drop_more ws i w inside)
      ∙ ap (λ v. options_from o (string_bytes v ∷ map string_bytes (drop (i + 1) ws))) (sym here)
      ∙ ap (λ p. option_and_then (λ n. options_from n (map string_bytes (drop (i + 1) ws))) p) says

  -- No word is left.
  pub none_left : length ws ≤ i → all ≡ from_place ws i o → all ≡ options_from o []
  none_left end so_far = so_far ∙ ap (λ rest. options_from o (map string_bytes rest)) (drop_all i ws end)
