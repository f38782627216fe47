use Rattle.std.proofs.Common.{◌≡◌, inl, inr, ℕ, ◌<◌, ◌==◌, ◌%◌, cond, sym, ap, arith, ◌∙◌}
use Rattle.std.proofs.lemmas.Bool.{cases_lt}
use Rattle.std.proofs.lemmas.Bool.Decides.{nat_tests}
use Rattle.std.proofs.Math.Nat.{mod_self, mod-eq_of_lt}
use Rattle.sl_ballot_law.proofs.laws.remainders_name_hosts.Goals as goal

last : (n r : ℕ) → r ≡ 0 → cond (r == 0) n r ≡ n
last n r e = grind (arith, nat_tests)

other : (n k r : ℕ) → r ≡ k → 0 < k → cond (r == 0) n r ≡ k
other n k r e l = grind (arith, nat_tests)

pub returns : goal.returns
returns c n k m pos le e = elim (cases_lt k n) [
  | inl lt ↦ other n k (m % n) (e ∙ mod-eq_of_lt lt) pos
  | inr ge ↦
      let same : k ≡ n = omega arith in
      last n (m % n) (e ∙ (ap (λ (x : ℕ). x % n) same ∙ mod_self n)) ∙ sym same
]
