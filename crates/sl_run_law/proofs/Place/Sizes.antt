-- What the table of sizes gives of a layout, and the arithmetic of its areas and sectors, whatever their sizes.
use Rattle.sl_area.proofs.SizeLaws.{HasRoom, has_room}
use Rattle.sl_area.specs.AreaSizes.{IsGeometry, Layout, Sizes, layout_with, roomy}
use Rattle.sl_area.specs.AreaLayout.{block_sectors}
use Rattle.sl_sector.specs.SectorLayouts.{IsSectorSize}
use Rattle.sl_words.proofs.CaseLaws.{false_is_true}
use Rattle.sl_words.proofs.WordLaws.{and_true, or_true}
use Rattle.std.proofs.Common.{ap, arith, inl, inr, refl, subst, sym, ◌∙◌}
use Rattle.std.proofs.Math.Nat.{add-sub_cancel_left, mod-le, mul-div_cancel_left, mul-le-mul_left, mul-mod_left}
use Rattle.std.proofs.lemmas.Bool.Decides.{Decides-eqb}
use Rattle.std.proofs.lemmas.Nat.{div-add-mod', div-mul-add, mod_below}
use Rattle.std.specs.Int.{is_in_range}
use Rattle.std.specs.Prelude.{Bool, true, ℕ, ◌%◌, ◌&&◌, ◌*◌, ◌+◌, ◌-◌, ◌/◌, ◌<◌, ◌==◌, ◌||◌, ◌≡◌, ◌≤◌, ◌⊎◌}

-- ---- what the table gives

-- A layout of these sizes, which the table has: an area is made of whole sectors, and has room for three more than there are hosts, and
-- than the hosts' blocks have.
pub record IsSized (s : Sizes) (g : Layout) : Type 0 where
  pub area : g.area ≡ s.area
  pub sector : (512 ≤ g.sector) × (g.sector ≤ 4096)
  pub hosts : (1 ≤ g.hosts) × (g.hosts ≤ 2000)
  pub room : g.sector * (g.hosts + 3) ≤ g.area
  pub blocks : g.sector * (block_sectors g + 3) ≤ g.area
  pub whole : g.area % g.sector ≡ 0
  pub paired : g.paired ≡ s.paired

whole_row : (s : Sizes) (sector area most : ℕ) (rest : Bool) → area % sector ≡ 0 → (sector == s.sector && area == s.area && is_in_range 1 (roomy s.paired most) s.hosts || rest) ≡ true
    → (rest ≡ true → s.area % s.sector ≡ 0) → s.area % s.sector ≡ 0
whole_row s sector area most rest zero h others = by (or_true (sector == s.sector && area == s.area && is_in_range 1 (roomy s.paired most) s.hosts) rest h) where
  by : ((sector == s.sector && area == s.area && is_in_range 1 (roomy s.paired most) s.hosts) ≡ true) ⊎ (rest ≡ true) → s.area % s.sector ≡ 0
  by (inr is) = others is
  by (inl is) =
      let both = and_true (sector == s.sector) (area == s.area) (and_true (sector == s.sector && area == s.area) (is_in_range 1 (roomy s.paired most) s.hosts) is).0 in
      subst (λ n. n % s.sector ≡ 0) ((Decides-eqb area s.area).0 both.1) (subst (λ n. area % n ≡ 0) ((Decides-eqb sector s.sector).0 both.0) zero)

are_whole : (s : Sizes) → IsGeometry s → s.area % s.sector ≡ 0
are_whole s h =
    whole_row s 512 1048576 2000 _ (omega arith) h (λ h.
    whole_row s 4096 1048576 250 _ (omega arith) h (λ h.
    whole_row s 4096 2097152 500 _ (omega arith) h (λ h.
    whole_row s 4096 4194304 1000 _ (omega arith) h (λ h.
    whole_row s 4096 8388608 2000 _ (omega arith) h (λ h. absurd (false_is_true h))))))

pub sized : (digest : _) (s : Sizes) → IsGeometry s → IsSized s (layout_with digest s)
sized digest s h = let r : HasRoom s = has_room s h in record { area = refl; sector = r.sector; hosts = r.hosts; room = r.room; blocks = r.blocks; whole = are_whole s h; paired = refl }

pub sector_fits : {s : Sizes} (g : Layout) → IsSized s g → IsSectorSize g.sector
sector_fits g z = z.sector

some_bytes : (n : ℕ) → 512 ≤ n → 0 < n
some_bytes n h = omega (arith, h)

pub sector_has_bytes : {s : Sizes} (g : Layout) → IsSized s g → 0 < g.sector
sector_has_bytes g z = some_bytes g.sector z.sector.0

within_room : (s n area : ℕ) → 0 < s → s * (n + 3) ≤ area → s ≤ area
within_room s n area some fits = let more : s * (n + 3) ≡ s * n + s * 3 = grind arith in omega (arith, fits, more)

pub sector_in_area : {s : Sizes} (g : Layout) → IsSized s g → g.sector ≤ g.area
sector_in_area g z = within_room g.sector g.hosts g.area (sector_has_bytes g z) z.room

more_bytes : (s area : ℕ) → 0 < s → s ≤ area → 0 < area
more_bytes s area some fits = omega (arith, some, fits)

pub area_has_bytes : {s : Sizes} (g : Layout) → IsSized s g → 0 < g.area
area_has_bytes g z = more_bytes g.sector g.area (sector_has_bytes g z) (sector_in_area g z)

-- ---- bases

-- A multiple, by its quotient.
multiple_is : (n a : ℕ) → a % n ≡ 0 → a / n * n ≡ a
multiple_is n a zero = let whole : a / n * n + a % n ≡ a = div-add-mod' a n in omega (arith, whole, zero)

behind_base : (q o a : ℕ) → q ≡ a → a ≤ o → q + (o - a) ≡ o
behind_base q o a is low = omega (arith, is, low)

less_behind : (o a n : ℕ) → a ≤ o → o < a + n → o - a < n
less_behind o a n low high = omega (arith, low, high)

-- The base of what lies within n bytes behind a multiple of n.
base_of : (n a o : ℕ) → a % n ≡ 0 → a ≤ o → o < a + n → o / n * n ≡ a
base_of n a o zero low high =
    let is : a / n * n ≡ a = multiple_is n a zero in
    let part : (a / n * n + (o - a)) / n ≡ a / n = div-mul-add (a / n) n (o - a) (less_behind o a n low high) in
    ap (λ k. k * n) (ap (λ k. k / n) (sym (behind_base (a / n * n) o a is low)) ∙ part) ∙ is

-- Two bases whose areas meet are one.
pub one_base : (n a b o : ℕ) → a % n ≡ 0 → b % n ≡ 0 → a ≤ o → o < a + n → b ≤ o → o < b + n → a ≡ b
one_base n a b o p q low high low' high' = sym (base_of n a o p low high) ∙ base_of n b o q low' high'

part_off : (q r o : ℕ) → q + r ≡ o → o - r ≡ q
part_off q r o is = omega (arith, is)

-- The base of an offset is a multiple, and the offset lies behind it.
pub is_multiple : (n o : ℕ) → (o - o % n) % n ≡ 0
is_multiple n o = ap (λ k. k % n) (part_off (o / n * n) (o % n) o (div-add-mod' o n)) ∙ mul-mod_left (o / n) n

near_base : (o r n : ℕ) → r ≤ o → r < n → (o - r ≤ o) × (o < o - r + n)
near_base o r n part less = (omega arith, omega (arith, part, less))

pub around_base : (n o : ℕ) → 0 < n → (o - o % n ≤ o) × (o < o - o % n + n)
around_base n o some = near_base o (o % n) n (mod-le o n) (mod_below o n some)

-- ---- sectors

pub one_factor : (s a b : ℕ) → 0 < s → s * a ≡ s * b → a ≡ b
one_factor s a b some is = sym (mul-div_cancel_left a some) ∙ ap (λ n. n / s) is ∙ mul-div_cancel_left b some

same_behind : (base a b : ℕ) → base + a ≡ base + b → a ≡ b
same_behind base a b is = omega (arith, is)

-- Sectors at one offset behind a base are one.
pub one_slot : (s base i j : ℕ) → 0 < s → base + s * i ≡ base + s * j → i ≡ j
one_slot s base i j some is = one_factor s i j some (same_behind base (s * i) (s * j) is)

pub number_of_slot : (s base k : ℕ) → 0 < s → (base + s * k - base) / s ≡ k
number_of_slot s base k some = ap (λ n. n / s) (add-sub_cancel_left base (s * k)) ∙ mul-div_cancel_left k some

-- Below the room of the area.
pub slot_below : (s base k n area : ℕ) → 0 < s → k ≤ n + 2 → s * (n + 3) ≤ area → base + s * k < base + area
slot_below s base k n area some most fits =
    let upto : s * k ≤ s * (n + 2) = mul-le-mul_left s most in
    let more : s * (n + 3) ≡ s * (n + 2) + s = grind arith in
    omega (arith, some, upto, more, fits)

by_factors : (q t s k : ℕ) → q * (t * s) + s * k ≡ (q * t + k) * s
by_factors q t s k = grind arith

-- A sector of an area begins at a multiple of its size.
pub begins_at_sector : (s area base k : ℕ) → area % s ≡ 0 → base % area ≡ 0 → (base + s * k) % s ≡ 0
begins_at_sector s area base k whole zero =
    let is : base ≡ base / area * (area / s * s) = sym (ap (λ n. base / area * n) (multiple_is s area whole) ∙ multiple_is area base zero) in
    ap (λ n. (n + s * k) % s) is ∙ ap (λ n. n % s) (by_factors (base / area) (area / s) s k) ∙ mul-mod_left (base / area * (area / s) + k) s
