-- Sectors are bytes where each is.
use Rattle.std.proofs.Common.{subst}
use Rattle.std.proofs.lemmas.List.Folds.{list_all-append}
use Rattle.std.specs.List.{list_all}
use Rattle.std.specs.Prelude.{IsTrue, List, nat_lt, ℕ, ◌++◌, ◌≡◌}

pub bytes_on : (xs ys : List ℕ) → IsTrue (list_all (λ b. nat_lt b 256) xs) → IsTrue (list_all (λ b. nat_lt b 256) ys) → IsTrue (list_all (λ b. nat_lt b 256) (xs ++ ys))
bytes_on xs ys front back = rw (list_all-append (λ b. nat_lt b 256) xs ys, front) back

pub bytes_so : (xs ys : List ℕ) → xs ≡ ys → IsTrue (list_all (λ b. nat_lt b 256) xs) → IsTrue (list_all (λ b. nat_lt b 256) ys)
bytes_so xs ys same all = subst (λ (bs : List ℕ). IsTrue (list_all (λ b. nat_lt b 256) bs)) same all
