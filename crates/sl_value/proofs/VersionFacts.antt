-- Writes under instances that never fall: the newest one has the greatest instance.
use Rattle.sl_sector.specs.declared.sector.ValueRec.{ValueRec}
use Rattle.sl_value.specs.Laws.{NewestIsEnough, are_below, last_seq_among}
use Rattle.sl_words.proofs.WordLaws.{and_true}
use Rattle.std.proofs.Common.{List, [], ap, arith, inl, inr, leb, refl, sym, true, ℕ, ◌+◌, ◌<◌, ◌≡◌, ◌∷◌}
use Rattle.std.proofs.lemmas.Bool.Decides.{nat_tests}
use Rattle.std.proofs.lemmas.Bool.{cases_eq, eq-eqb, ne_eqb}

-- No write under a lower instance is one under this instance.
none_among : (vs : List ValueRec) (top lver : ℕ) → are_below top vs ≡ true → top < lver → last_seq_among vs lver ≡ 0
none_among [] top lver below lt = refl
none_among (v ∷ vs) top lver below lt =
    let parts = and_true (leb v.lver top) (are_below v.lver vs) below in
    let low : v.lver < lver = grind (arith, nat_tests, parts.0, lt) in
    rw (ne_eqb v.lver lver (λ e. omega (arith, e, low))) (none_among vs v.lver lver parts.1 low)

-- The newest write is enough.
pub newest_is_enough : NewestIsEnough
newest_is_enough [] lver below = refl
newest_is_enough (v ∷ vs) lver below = elim (cases_eq v.lver lver) [
  | inl same ↦ rw (eq-eqb v.lver lver same) refl
  | inr other ↦
      let parts = and_true (leb v.lver lver) (are_below v.lver vs) below in
      let low : v.lver < lver = grind (arith, nat_tests, parts.0, other) in
      rw (ne_eqb v.lver lver other) (ap (λ (n : ℕ). n + 1) (sym (none_among vs v.lver lver parts.1 low)))
]
