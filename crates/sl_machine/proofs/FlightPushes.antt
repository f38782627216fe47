-- New calls, numbered on.
use Rattle.sl_words.proofs.Lists.{tail_is}
use Rattle.sl_words.proofs.Numbers.{one_further, plus_zero}
use Rattle.sl_trace.specs.declared.effects.Call.{Call}
use Rattle.sl_words.proofs.CaseLaws.{some_value}
use Rattle.std.proofs.Common.{ap, arith, get_or, refl, ◌∙◌}
use Rattle.std.specs.List.{range_with_len}
use Rattle.std.specs.Prelude.{List, filter, length, map, slice_get, suc, true, zero, [], ℕ, ◌+◌, ◌<◌, ◌∷◌, ◌≡◌}

pub all_kept : {A : Type 0} (xs : List A) → filter (λ x. true) xs ≡ xs
all_kept [] = refl
all_kept (x ∷ xs) = ap (λ ys. x ∷ ys) (all_kept xs)

-- The number at a place of those that are numbered on.
pub numbered_at : (n k : ℕ) (cs : List Call) (c : Call) → map (λ c. c.number) cs ≡ range_with_len n (length cs) → k < length cs → c ≡ get_or cs k c → c.number ≡ n + k
numbered_at n k [] c is lt read = absurd (omega (arith, lt))
numbered_at n zero (x ∷ xs) c is lt read = ap (λ (y : Call). y.number) read ∙ some_value x.number n (ap (λ ns. slice_get ns 0) is) ∙ plus_zero n
numbered_at n (suc k) (x ∷ xs) c is lt read =
    numbered_at (n + 1) k xs c (tail_is x.number n (map (λ c. c.number) xs) (range_with_len (n + 1) (length xs)) is) (omega (arith, lt)) read ∙ one_further n k
