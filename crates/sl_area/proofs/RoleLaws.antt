-- No two sectors of a resource's area share a byte: all but the value's have numbers, and that of the value is the last.
use Rattle.sl_area.proofs.SizeLaws.{HasRoom, has_room, pair_number, sectors_of_blocks, sectors_of_pairs}
use Rattle.sl_area.specs.AreaSizes.{Sizes, layout_of}
use Rattle.sl_area.specs.AreaLayout.{block_sectors}
use Rattle.sl_area.specs.Roles.{IsRole, Role, RolesAreApart, block, leader, pair, place_at, request, role_offset, value}
use Rattle.sl_area.specs.Sectors.{Apart}
use Rattle.std.proofs.Common.{Bool, ap, arith, false, inl, inr, refl, subst, true, ℕ, ◌*◌, ◌+◌, ◌-◌, ◌<◌, ◌≡◌, ◌≢◌, ◌≤◌, ◌⊎◌}
use Rattle.std.proofs.lemmas.Bool.{cases_lt}

-- A sector ends where one of a greater number begins, or before.
numbers_apart : (base sector i j : ℕ) → i < j → base + sector * i + sector ≤ base + sector * j
numbers_apart base sector i j less =
    let last : sector * (i + 1) ≤ sector * j = grind (arith) in
    let next : sector * (i + 1) ≡ sector * i + sector = grind (arith) in
    omega (arith, last, next)

-- The last sector is behind them.
before_last : (base sector k n area : ℕ) → k ≤ n → sector * (n + 2) ≤ area → base + sector * k + sector ≤ base + area - sector
before_last base sector k n area below room =
    let most : sector * (k + 2) ≤ sector * (n + 2) = grind (arith) in
    let ends : sector * (k + 2) ≡ sector * k + sector + sector = grind (arith) in
    omega (arith, room, most, ends)

-- The number of a role's sector; the value has none.
abbrev number_of : Role → ℕ
number_of leader = 0
number_of request = 1
number_of (block id) = id + 1
number_of (pair id first) = pair_number id first
number_of value = 0

abbrev HasNumber : Role → Type 0
HasNumber leader = Unit {0}
HasNumber request = Unit {0}
HasNumber (block id) = Unit {0}
HasNumber (pair id first) = Unit {0}
HasNumber value = ⊥

-- Where a sector with a number stands, and that it is one of the first.
record IsNumbered (s : Sizes) (base : ℕ) (role : Role) : Type 0 where
  at : role_offset s base role ≡ base + s.sector * number_of role
  few : number_of role < block_sectors (layout_of s) + 2

numbered : (s : Sizes) (base : ℕ) (role : Role) → IsRole s role → HasNumber role → IsNumbered s base role
numbered s base leader is has = record { at = omega arith; few = omega arith }
numbered s base request is has = record { at = omega arith; few = omega arith }
numbered s base (block id) is has = let n = sectors_of_blocks s is.1 in record { at = refl; few = omega (arith, is.0.1, n) }
numbered s base (pair id true) is has = let n = sectors_of_pairs s is.1 in record { at = refl; few = omega (arith, is.0.1, n) }
numbered s base (pair id false) is has = let n = sectors_of_pairs s is.1 in record { at = refl; few = omega (arith, is.0.1, n) }
numbered s base value is has = absurd has

not_both_kinds : (b : Bool) → b ≡ false → b ≡ true → ⊥
not_both_kinds b e f = cc

same_pair : (i j : ℕ) (first second : Bool) → pair_number i first ≡ pair_number j second → pair i first ≡ pair j second
same_pair i j true true e = let same : i ≡ j = omega (arith, e) in ap (λ (k : ℕ). pair k true) same
same_pair i j true false e = absurd (omega (arith, e))
same_pair i j false true e = absurd (omega (arith, e))
same_pair i j false false e = let same : i ≡ j = omega (arith, e) in ap (λ (k : ℕ). pair k false) same

low_pair : (id : ℕ) (first : Bool) → 1 ≤ id → 2 ≤ pair_number id first
low_pair id true some = omega (arith, some)
low_pair id false some = omega (arith, some)

-- Roles of one number are one.
same_number : (s : Sizes) (role other : Role) → IsRole s role → IsRole s other → HasNumber role → HasNumber other → number_of role ≡ number_of other → role ≡ other
same_number s leader leader a b h i e = refl
same_number s leader request a b h i e = absurd (omega (arith, e))
same_number s leader (block id) a b h i e = absurd (omega (arith, e))
same_number s leader (pair id first) a b h i e = let low = low_pair id first b.0.0 in absurd (omega (arith, e, low))
same_number s request leader a b h i e = absurd (omega (arith, e))
same_number s request request a b h i e = refl
same_number s request (block id) a b h i e = absurd (omega (arith, e, b.0.0))
same_number s request (pair id first) a b h i e = let low = low_pair id first b.0.0 in absurd (omega (arith, e, low))
same_number s (block id) leader a b h i e = absurd (omega (arith, e))
same_number s (block id) request a b h i e = absurd (omega (arith, e, a.0.0))
same_number s (block id) (block other) a b h i e = let same : id ≡ other = omega (arith, e) in ap block same
same_number s (block id) (pair other first) a b h i e = absurd (not_both_kinds s.paired a.1 b.1)
same_number s (pair id first) leader a b h i e = let low = low_pair id first a.0.0 in absurd (omega (arith, e, low))
same_number s (pair id first) request a b h i e = let low = low_pair id first a.0.0 in absurd (omega (arith, e, low))
same_number s (pair id first) (block other) a b h i e = absurd (not_both_kinds s.paired b.1 a.1)
same_number s (pair id first) (pair other second) a b h i e = same_pair id other first second e
same_number s value other a b h i e = absurd h
same_number s role value a b h i e = absurd i

apart_by : (s : Sizes) (base : ℕ) (role other : Role) (i j : ℕ) → role_offset s base role ≡ base + s.sector * i → role_offset s base other ≡ base + s.sector * j
    → (i < j) ⊎ (j < i) → Apart (place_at s (role_offset s base role)) (place_at s (role_offset s base other))
apart_by s base role other i j a b (inl less) = inl (rw (a, b) (numbers_apart base s.sector i j less))
apart_by s base role other i j a b (inr less) = inr (rw (a, b) (numbers_apart base s.sector j i less))

differ : (i j : ℕ) → i ≢ j → (i < j) ⊎ (j < i)
differ i j ne =
    elim (cases_lt i j) [
      | inl less ↦ inl less
      | inr more ↦ inr (omega (arith, more, ne))
    ]

-- Two that have numbers.
numbers : (s : Sizes) (base : ℕ) (role other : Role) → IsRole s role → IsRole s other → HasNumber role → HasNumber other → role ≢ other
    → Apart (place_at s (role_offset s base role)) (place_at s (role_offset s base other))
numbers s base role other a b h i ne =
    apart_by s base role other (number_of role) (number_of other) (numbered s base role a h).at (numbered s base other b i).at
    (differ (number_of role) (number_of other) (λ e. ne (same_number s role other a b h i e)))

-- One that has a number, and the value.
ends_before : (s : Sizes) (base : ℕ) (role : Role) → HasRoom s → IsRole s role → HasNumber role → role_offset s base role + s.sector ≤ role_offset s base value
ends_before s base role room a h =
    let n = numbered s base role a h in
    let sectors = block_sectors (layout_of s) in
    let count : sectors + 3 ≡ sectors + 1 + 2 = omega arith in
    let enough : s.sector * (sectors + 1 + 2) ≤ s.area = subst (λ (m : ℕ). s.sector * m ≤ s.area) count room.blocks in
    rw n.at (before_last base s.sector (number_of role) (sectors + 1) s.area (omega (arith, n.few)) enough)

pub roles_are_apart : RolesAreApart
roles_are_apart s base role other is a b ne = by role other a b ne
  where
    room : HasRoom s
    room = has_room s is

    Are : Role → Role → Type 0
    Are x y = Apart (place_at s (role_offset s base x)) (place_at s (role_offset s base y))

    last : (y : Role) → IsRole s y → value ≢ y → Are value y
    last leader b ne = inr (ends_before s base leader room b tt)
    last request b ne = inr (ends_before s base request room b tt)
    last (block id) b ne = inr (ends_before s base (block id) room b tt)
    last (pair id first) b ne = inr (ends_before s base (pair id first) room b tt)
    last value b ne = absurd (ne refl)

    by_other : (x y : Role) → HasNumber x → IsRole s x → IsRole s y → x ≢ y → Are x y
    by_other x leader h a b ne = numbers s base x leader a b h tt ne
    by_other x request h a b ne = numbers s base x request a b h tt ne
    by_other x (block id) h a b ne = numbers s base x (block id) a b h tt ne
    by_other x (pair id first) h a b ne = numbers s base x (pair id first) a b h tt ne
    by_other x value h a b ne = inl (ends_before s base x room a h)

    by : (x y : Role) → IsRole s x → IsRole s y → x ≢ y → Are x y
    by leader y a b ne = by_other leader y tt a b ne
    by request y a b ne = by_other request y tt a b ne
    by (block id) y a b ne = by_other (block id) y tt a b ne
    by (pair id first) y a b ne = by_other (pair id first) y tt a b ne
    by value y a b ne = last y b ne
