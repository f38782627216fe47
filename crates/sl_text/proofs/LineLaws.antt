-- The lines of a source: the first one, and lines that are written and read again.
use Rattle.sl_text.proofs.PieceLaws.{first_piece, pieces-front}
use Rattle.sl_text.specs.Forms.{as_bytes, is_free_of, lines_of, pieces, without_empty_last}
use Rattle.sl_text.specs.Walks.{pieces_behind, text_left, with_behind}
use Rattle.sl_words.proofs.WordLaws.{and_true}
use Rattle.std.proofs.Common.{List, None, Option, Some, [], ap, arith, length, refl, sym, true, ℕ, ◌<◌, ◌≡◌, ◌∙◌, ◌∷◌}
use Rattle.std.proofs.lemmas.List.{append_assoc}
use Rattle.std.specs.List.{list_all}

-- A line before others stays, empty or not.
kept_line : (l m : List ℕ) (ls : List (List ℕ)) → without_empty_last (l ∷ m ∷ ls) ≡ l ∷ without_empty_last (m ∷ ls)
kept_line [] m ls = refl
kept_line (b ∷ l) m ls = refl

-- The lines behind a line feed.
behind_feed : (l bs : List ℕ) → without_empty_last (l ∷ pieces 10 bs) ≡ l ∷ lines_of bs
behind_feed l bs =
    let first = first_piece 10 bs in
    ap (λ ps. without_empty_last (l ∷ ps)) first.2 ∙ kept_line l first.0 first.1 ∙ ap (λ ps. l ∷ without_empty_last ps) (sym first.2)

-- The first line of a source that isn't empty.
pub lines_of-first : (source line : List ℕ) (rest : Option (List ℕ)) → pieces 10 source ≡ line ∷ pieces_behind 10 rest → source ≡ with_behind 10 line rest → 0 < length source → lines_of source ≡ line ∷ lines_of (text_left rest)
lines_of-first source [] None cut e some = absurd (omega (arith, ap length e))
lines_of-first source (b ∷ line) None cut e some = ap without_empty_last cut
lines_of-first source line (Some bs) cut e some = ap without_empty_last cut ∙ behind_feed line bs

-- Lines that are written are read as themselves.
pub lines_of-as_bytes : (ls : List (List ℕ)) → list_all (is_free_of 10) ls ≡ true → lines_of (as_bytes ls) ≡ ls
lines_of-as_bytes [] free = refl
lines_of-as_bytes (l ∷ ls) free =
    let parts = and_true (is_free_of 10 l) (list_all (is_free_of 10) ls) free in
    ap lines_of (append_assoc l (10 ∷ []) (as_bytes ls))
    ∙ ap without_empty_last (pieces-front 10 l (as_bytes ls) parts.0)
    ∙ behind_feed l (as_bytes ls)
    ∙ ap (λ ms. l ∷ ms) (lines_of-as_bytes ls parts.1)

-- What splitting off a line uses.
pub ruleset splitting = (lines_of-first)

-- Writing lines and reading them.
pub ruleset written_lines = (lines_of-as_bytes)
