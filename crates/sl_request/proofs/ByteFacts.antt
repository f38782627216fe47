-- One bit of a byte: what adding it and taking it away makes of the byte, and of its other bits.
use Rattle.std.proofs.Common.{arith, bit_and, bit_or, cond, eqb, inl, inr, not, refl, ℕ, ◌%◌, ◌+◌, ◌-◌, ◌<◌, ◌^◌, ◌≡◌, ◌∙◌}
use Rattle.std.proofs.lemmas.Bool.{cases_lt, ne_eqb}
use Rattle.std.proofs.lemmas.Nat.Bits.{and_pow, bit_at-lt, bit_at-pow_other, bit_at-pow_same, bit_at_or, bit_at_xor}
use Rattle.std.proofs.lemmas.Nat.{and-not, and_comm, or_of_8, pow_pos}
use Rattle.std.specs.Int.Bits.{bit_xor, or_add_and, xor_add_and}
use Rattle.std.specs.Int.{bit_at}
use Rattle.std.specs.Prelude.{◌≢◌, ◌⊎◌}

-- The number with bit p set.
abbrev pub with_bit : ℕ → ℕ → ℕ
with_bit n p = cond (eqb (bit_at n p) 1) n (n + 2 ^ p)

-- The number with bit p not set.
abbrev pub without_bit : ℕ → ℕ → ℕ
without_bit n p = cond (eqb (bit_at n p) 1) (n - 2 ^ p) n

-- A bit is 0 or 1.
pub bit_cases : (n p : ℕ) → (bit_at n p ≡ 1) ⊎ (bit_at n p ≡ 0)
bit_cases n p =
    let small : bit_at n p < 2 = bit_at-lt n p in
    elim (cases_lt (bit_at n p) 1) [ inl lt ↦ inr (omega arith) | inr le ↦ inl (omega arith) ]

-- The bits that a number has in common with one bit.
common_none : (n p : ℕ) → bit_at n p ≡ 0 → bit_and n (2 ^ p) ≡ 0
common_none n p h = and_pow n p ∙ rw h (omega arith)

common_one : (n p : ℕ) → bit_at n p ≡ 1 → bit_and n (2 ^ p) ≡ 2 ^ p
common_one n p h = and_pow n p ∙ rw h (omega arith)

-- To set a bit is to take the union with it.
pub with_bit-or : (n p : ℕ) → bit_or n (2 ^ p) ≡ with_bit n p
with_bit-or n p = elim (bit_cases n p) [
  | inl one ↦ let h = common_one n p one in let s = or_add_and n (2 ^ p) in rw one (omega (arith, h, s))
  | inr none ↦ let h = common_none n p none in let s = or_add_and n (2 ^ p) in rw none (omega (arith, h, s))
]

-- A number has something in common with one bit exactly where that bit is set.
pub has_bit : (n p : ℕ) → not (eqb (bit_and n (2 ^ p)) 0) ≡ eqb (bit_at n p) 1
has_bit n p = elim (bit_cases n p) [
  | inl one ↦ let low : 0 < 2 ^ p = pow_pos p in rw (common_one n p one, ne_eqb (2 ^ p) 0 (λ e. omega (arith, e, low)), one) refl
  | inr none ↦ rw (common_none n p none, none) refl
]

-- To clear a bit is to keep the others.
pub without_bit-and : (n p : ℕ) → n < 2 ^ 8 → 2 ^ p < 2 ^ 8 → bit_and n (2 ^ 8 - 1 - 2 ^ p) ≡ without_bit n p
without_bit-and n p byte low = elim (bit_cases n p) [
  | inl one ↦ let h = common_one n p one in rw one (omega (arith, h, kept))
  | inr none ↦ let h = common_none n p none in rw none (omega (arith, h, kept))
]
  where
    kept : bit_and n (2 ^ 8 - 1 - 2 ^ p) + bit_and n (2 ^ p) ≡ n
    kept = rw (and_comm n (2 ^ 8 - 1 - 2 ^ p), and_comm n (2 ^ p)) (and-not 8 (2 ^ p) n low byte)

-- A bit that is set is cleared by its difference.
without_bit-xor : (n p : ℕ) → bit_at n p ≡ 1 → bit_xor n (2 ^ p) ≡ n - 2 ^ p
without_bit-xor n p one = let h = common_one n p one in let s = xor_add_and n (2 ^ p) in omega (arith, h, s)

-- The bit that was set.
pub with_bit-same : (n p : ℕ) → bit_at (with_bit n p) p ≡ 1
with_bit-same n p =
    let small : bit_at n p < 2 = bit_at-lt n p in
    rw (← with_bit-or n p) (bit_at_or n (2 ^ p) p ∙ rw (bit_at-pow_same p) (omega arith))

-- The others.
pub with_bit-other : (n p q : ℕ) → q ≢ p → bit_at (with_bit n p) q ≡ bit_at n q
with_bit-other n p q h = rw (← with_bit-or n p) (bit_at_or n (2 ^ p) q ∙ rw (bit_at-pow_other p q h) (omega arith))

-- The bit that was cleared.
pub without_bit-same : (n p : ℕ) → bit_at (without_bit n p) p ≡ 0
without_bit-same n p = elim (bit_cases n p) [
  | inl one ↦ rw (one, ← without_bit-xor n p one) (bit_at_xor n (2 ^ p) p ∙ rw (one, bit_at-pow_same p) refl)
  | inr none ↦ rw none none
]

-- The others.
pub without_bit-other : (n p q : ℕ) → q ≢ p → bit_at (without_bit n p) q ≡ bit_at n q
without_bit-other n p q h = elim (bit_cases n p) [
  | inl one ↦ rw (one, ← without_bit-xor n p one) (bit_at_xor n (2 ^ p) q ∙ rw (bit_at-pow_other p q h) (other (bit_at n q) (bit_at-lt n q)))
  | inr none ↦ rw none refl
]
  where
    other : (b : ℕ) → b < 2 → (b + 0) % 2 ≡ b
    other b small = omega arith

-- Both are bytes.
pub with_bit-byte : (n p : ℕ) → n < 2 ^ 8 → 2 ^ p < 2 ^ 8 → with_bit n p < 2 ^ 8
with_bit-byte n p byte low = rw (← with_bit-or n p) (or_of_8 n (2 ^ p) byte low)

pub without_bit-byte : (n p : ℕ) → n < 2 ^ 8 → without_bit n p < 2 ^ 8
without_bit-byte n p byte = elim (bit_cases n p) [ inl one ↦ rw one (omega arith) | inr none ↦ rw none byte ]
