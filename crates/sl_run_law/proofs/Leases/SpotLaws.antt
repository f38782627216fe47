-- Areas are apart.
use Rattle.sl_run_law.proofs.Place.FoundInLists.{same_text}
use Rattle.sl_run_law.specs.Leases.LeaseLaws.{AreasAreApart}
use Rattle.sl_trace.specs.declared.effects.Spot.{Spot}
use Rattle.sl_words.proofs.WordLaws.{and_true}
use Rattle.std.proofs.Common.{ap, arith, inl, inr, sym, ◌∙◌}
use Rattle.std.proofs.Math.Nat.{div-add-mod, mod-lt, mul-le-mul_left}
use Rattle.std.proofs.lemmas.Bool.{cases_lt, leb-true, ltb-true}
use Rattle.std.specs.Prelude.{List, bytes_eq, nat_le, nat_lt, true, ℕ, ◌%◌, ◌&&◌, ◌*◌, ◌+◌, ◌-◌, ◌/◌, ◌<◌, ◌≡◌, ◌≤◌}

-- Two multiples of a size with a number less than the size above both are one.
one_multiple : (size p q r s : ℕ) → r < size → s < size → size * p + r ≡ size * q + s → p ≡ q
one_multiple size p q r s low low' same =
    elim (cases_lt p q) [
      | inl less ↦ absurd (let more : size * (p + 1) ≤ size * q = mul-le-mul_left size (omega (arith, less)) in omega (arith, more, low, low', same))
      | inr up ↦
          elim (cases_lt q p) [
            | inl less ↦ absurd (let more : size * (q + 1) ≤ size * p = mul-le-mul_left size (omega (arith, less)) in omega (arith, more, low, low', same))
            | inr down ↦ omega (arith, up, down)
          ]
    ]

base_is : (size o : ℕ) → o - o % size ≡ size * (o / size)
base_is size o = omega (arith, div-add-mod o size)

one_base : (size o d : ℕ) → o - o % size ≤ d → d < o - o % size + size → d - d % size ≡ o - o % size
one_base size o d low high =
    let own : size * (o / size) + o % size ≡ o = div-add-mod o size in
    let other : size * (d / size) + d % size ≡ d = div-add-mod d size in
    let some : 0 < size = omega (arith, low, high) in
    let rest : d % size < size = mod-lt d some in
    let same : d / size ≡ o / size =
    one_multiple size (d / size) (o / size) (d % size) (d - size * (o / size)) rest (omega (arith, low, high, own)) (omega (arith, low, high, own, other))
    in
    base_is size d ∙ (ap (λ k. size * k) same ∙ sym (base_is size o))

abbrev spot_at : List ℕ → ℕ → Spot
spot_at p n = record { path = p; base = n }

spots_are : (p q : List ℕ) (m n : ℕ) → p ≡ q → m ≡ n → spot_at p m ≡ spot_at q n
spots_are p q m n paths bases = ap (λ x. spot_at x m) paths ∙ ap (λ y. spot_at q y) bases

pub areas_are_apart : AreasAreApart
areas_are_apart g c d on =
    let parts : (bytes_eq d.call.path c.call.path ≡ true) × ((nat_le (c.call.offset - c.call.offset % g.area) d.call.offset && nat_lt d.call.offset (c.call.offset - c.call.offset % g.area + g.area)) ≡ true) =
    and_true (bytes_eq d.call.path c.call.path) (nat_le (c.call.offset - c.call.offset % g.area) d.call.offset && nat_lt d.call.offset (c.call.offset - c.call.offset % g.area + g.area)) on
    in
    let within : (nat_le (c.call.offset - c.call.offset % g.area) d.call.offset ≡ true) × (nat_lt d.call.offset (c.call.offset - c.call.offset % g.area + g.area) ≡ true) =
    and_true (nat_le (c.call.offset - c.call.offset % g.area) d.call.offset) (nat_lt d.call.offset (c.call.offset - c.call.offset % g.area + g.area)) parts.1
    in
    let base : d.call.offset - d.call.offset % g.area ≡ c.call.offset - c.call.offset % g.area =
    one_base g.area c.call.offset d.call.offset (leb-true (c.call.offset - c.call.offset % g.area) d.call.offset within.0)
    (ltb-true d.call.offset (c.call.offset - c.call.offset % g.area + g.area) within.1)
    in
    spots_are d.call.path c.call.path (d.call.offset - d.call.offset % g.area) (c.call.offset - c.call.offset % g.area) (same_text d.call.path c.call.path parts.0) base
