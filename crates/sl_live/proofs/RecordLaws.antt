-- A bitmap with no host.
use Rattle.sl_sector.proofs.ByteLaws.{all_zero-replicate, zeros_from_test}
use Rattle.sl_words.specs.Words.{all_zero}
use Rattle.std.proofs.Common.{ap, subst, sym, ◌∙◌}
use Rattle.std.specs.Prelude.{IsTrue, List, length, replicate, ℕ, ◌≡◌}

pub blank_from : (bs : List ℕ) → length bs ≡ 250 → IsTrue (all_zero bs) → bs ≡ replicate 250 0
blank_from bs long all = zeros_from_test bs all ∙ ap (λ n. replicate n 0) long

pub blank_back : (bs : List ℕ) → bs ≡ replicate 250 0 → IsTrue (all_zero bs)
blank_back bs is = subst (λ l. IsTrue (all_zero l)) (sym is) (all_zero-replicate 250)
