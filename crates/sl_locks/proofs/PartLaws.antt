-- The parts of a word that names a group and one of its logical volumes.
use Rattle.sl_locks.specs.Lines.{VolumeName, volume_name, volume_named, volume_parts_read}
use Rattle.sl_run.specs.LockNames.{is_group_name, is_volume_name}
use Rattle.sl_run.specs.LvmLines.{is_volume_word}
use Rattle.sl_text.specs.Forms.{pieces, word_at}
use Rattle.sl_text.specs.Walks.{Unread, past_word, unread}
use Rattle.sl_words.specs.Results.{ensure, ◌>>=◌}
use Rattle.sl_words.specs.Words.{choose}
use Rattle.std.proofs.Common.{Bool, List, [], ap, arith, eqb, false, length, refl, suc, sym, true, ℕ, ◌≡◌, ◌∙◌, ◌∷◌}
use Rattle.std.proofs.lemmas.Bool.{ne_eqb}
use Rattle.std.specs.Prelude.{Err, None, Ok, Result, if◌then◌else◌, ◌&&◌, ◌==◌}
use Rattle.std.specs.Result.{result_ok}

-- Two tests in turn, and then whether no part is left.
abbrev tested : Bool → Bool → Bool → ℕ → ℕ → ℕ → List ℕ → List ℕ → Result VolumeName ℕ
tested a b e first second third g n = do
  w ← (if a then Ok g else Err first)
  x ← (if b then Ok n else Err second)
  done ← ensure e third
  Ok (volume_name w x)

both : (a b e : Bool) (first second third : ℕ) (g n : List ℕ) → result_ok (tested a b e first second third g n) ≡ choose (e && a && b) (volume_name g n)
both true true true first second third g n = refl
both true true false first second third g n = refl
both true false true first second third g n = refl
both true false false first second third g n = refl
both false b true first second third g n = refl
both false b false first second third g n = refl

empty_end : (n : ℕ) → eqb (suc n) 0 ≡ false
empty_end n = ne_eqb (suc n) 0 (λ h. omega arith)

too_many : (n : ℕ) → eqb (suc (suc (suc n))) 2 ≡ false
too_many n = ne_eqb (suc (suc (suc n))) 2 (λ h. omega arith)

-- One part alone.
one_alone : (a : Bool) (first second : ℕ) (g : List ℕ) → result_ok (tested a false true first second 0 g []) ≡ None
one_alone true first second g = refl
one_alone false first second g = refl

by_parts : (column : ℕ) (ps : List (List ℕ)) → result_ok (volume_parts_read (record { column = column; words = ps }))
    ≡ choose (length ps == 2 && is_group_name (word_at ps 0) && is_volume_name (word_at ps 1)) (volume_name (word_at ps 0) (word_at ps 1))
by_parts column [] = refl
by_parts column (g ∷ []) =
    let u : Unread = record { column = column; words = g ∷ [] } in
    one_alone (is_group_name g) column (past_word u).column g
by_parts column (g ∷ n ∷ []) =
    let u : Unread = record { column = column; words = g ∷ n ∷ [] } in
    both (is_group_name g) (is_volume_name n) true column (past_word u).column (past_word (past_word u)).column g n
by_parts column (g ∷ n ∷ r ∷ rs) =
    let u : Unread = record { column = column; words = g ∷ n ∷ r ∷ rs } in
    let a = is_group_name g in
    let b = is_volume_name n in
    ap (λ e. result_ok (tested a b e column (past_word u).column (past_word (past_word u)).column g n)) (empty_end (length rs))
    ∙ both a b false column (past_word u).column (past_word (past_word u)).column g n
    ∙ ap (λ e. choose (e && a && b) (volume_name g n)) (sym (too_many (length rs)))

pub parts_named : (w : List ℕ) → result_ok (volume_parts_read (unread 47 w)) ≡ choose (is_volume_word w) (volume_named w)
parts_named w = by_parts 1 (pieces 47 w)
