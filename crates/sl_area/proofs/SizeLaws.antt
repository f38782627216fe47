-- What every row of the table of sizes gives.
use Rattle.sl_area.specs.AreaSizes.{IsGeometry, Sizes, layout_of, roomy}
use Rattle.sl_area.specs.AreaLayout.{block_sectors}
use Rattle.sl_area.specs.Roles.{IsHost, IsRole, LiesIn, PlacesLieInArea, Role, block, leader, pair, place_at, request, role_offset, value}
use Rattle.sl_words.proofs.WordLaws.{and_true, or_true}
use Rattle.std.proofs.Common.{ap, arith, sym}
use Rattle.std.proofs.lemmas.Bool.Decides.{Decides-eqb, nat_tests}
use Rattle.std.specs.Int.{is_in_range}
use Rattle.std.specs.Prelude.{Bool, false, if◌then◌else◌, nat_le, nat_lt, true, ℕ, ◌&&◌, ◌*◌, ◌+◌, ◌-◌, ◌<◌, ◌==◌, ◌||◌, ◌≡◌, ◌≤◌}
use mathlib.Core.Logic.{inl, inr, ◌⊎◌}

-- A sector has 512 to 4096 bytes, there are 1 to 2000 hosts, and an area has room for three sectors more than there are hosts, and than
-- the hosts' blocks have.
pub record HasRoom (s : Sizes) : Type 0 where
  pub sector : (512 ≤ s.sector) × (s.sector ≤ 4096)
  pub hosts : (1 ≤ s.hosts) × (s.hosts ≤ 2000)
  pub room : s.sector * (s.hosts + 3) ≤ s.area
  pub blocks : s.sector * (block_sectors (layout_of s) + 3) ≤ s.area
  pub few : block_sectors (layout_of s) ≤ 2000

-- One row: its sector, its area and its number of hosts.
abbrev is_row : ℕ → ℕ → ℕ → Sizes → Bool
is_row sector area most s = sector == s.sector && area == s.area && is_in_range 1 (roomy s.paired most) s.hosts

low_of : (n most : ℕ) → is_in_range 1 most n ≡ true → 1 ≤ n
low_of n most h = grind (arith, nat_tests)

high_of : (n most : ℕ) → is_in_range 1 most n ≡ true → n ≤ most
high_of n most h = grind (arith, nat_tests)

-- The sectors of blocks, of hosts for whom there is room, are at most as many as the hosts that have one each.
in_row : (s : Sizes) (most : ℕ) → s.hosts ≤ roomy s.paired most → (s.hosts ≤ most) × (block_sectors (layout_of s) ≤ most)
in_row s most h = by s.paired h
  where
    by : (paired : Bool) → s.hosts ≤ roomy paired most → (s.hosts ≤ most) × (elim paired as (λ _. ℕ) [ false ↦ s.hosts | true ↦ 2 * s.hosts ] ≤ most)
    by true h = (omega arith, omega arith)
    by false h = (h, h)

-- What a row says of the sizes.
record FitsRow (bytes whole most : ℕ) (s : Sizes) : Type 0 where
  sector : s.sector ≡ bytes
  area : s.area ≡ whole
  low : 1 ≤ s.hosts
  high : s.hosts ≤ most
  blocks : block_sectors (layout_of s) ≤ most

fits_row : (sector area most : ℕ) (s : Sizes) → is_row sector area most s ≡ true → FitsRow sector area most s
fits_row sector area most s h =
    let all = and_true (sector == s.sector && area == s.area) (is_in_range 1 (roomy s.paired most) s.hosts) h in
    let sized = and_true (sector == s.sector) (area == s.area) all.0 in
    let few = in_row s most (high_of s.hosts (roomy s.paired most) all.1) in
    record {
      sector = sym ((Decides-eqb sector s.sector).0 sized.0);
      area = sym ((Decides-eqb area s.area).0 sized.1);
      low = low_of s.hosts (roomy s.paired most) all.1;
      high = few.0;
      blocks = few.1;
    }

least_of : (n k : ℕ) → n ≡ k → 512 ≤ k → 512 ≤ n
least_of n k e h = omega (arith, e, h)

most_of : (n k m : ℕ) → n ≡ k → k ≤ m → n ≤ m
most_of n k m e h = omega (arith, e, h)

more_of : (n k m : ℕ) → n ≤ k → k ≤ m → n ≤ m
more_of n k m e h = omega (arith, e, h)

product_of : (k n m a area : ℕ) → n ≤ m → k * (m + 3) ≤ a → area ≡ a → k * (n + 3) ≤ area
product_of k n m a area below fits is = grind (arith)

room_of : (sector k n m a area : ℕ) → sector ≡ k → n ≤ m → k * (m + 3) ≤ a → area ≡ a → sector * (n + 3) ≤ area
room_of sector k n m a area e below fits is = rw e (product_of k n m a area below fits is)

row_room : (sector area most : ℕ) (s : Sizes) → 512 ≤ sector → sector ≤ 4096 → most ≤ 2000 → sector * (most + 3) ≤ area → FitsRow sector area most s → HasRoom s
row_room sector area most s low high few fits r = record {
  sector = (least_of s.sector sector r.sector low, most_of s.sector sector 4096 r.sector high);
  hosts = (r.low, more_of s.hosts most 2000 r.high few);
  room = room_of s.sector sector s.hosts most area s.area r.sector r.high fits r.area;
  blocks = room_of s.sector sector (block_sectors (layout_of s)) most area s.area r.sector r.blocks fits r.area;
  few = more_of (block_sectors (layout_of s)) most 2000 r.blocks few;
}

-- The first row, or one of the others.
next_row : (s : Sizes) (sector area most : ℕ) (rest : Bool) → 512 ≤ sector → sector ≤ 4096 → most ≤ 2000 → sector * (most + 3) ≤ area
    → (is_row sector area most s || rest) ≡ true → (rest ≡ true → HasRoom s) → HasRoom s
next_row s sector area most rest low high few fits h others = by (or_true (is_row sector area most s) rest h)
  where
    by : (is_row sector area most s ≡ true) ⊎ (rest ≡ true) → HasRoom s
    by (inl is) = row_room sector area most s low high few fits (fits_row sector area most s is)
    by (inr is) = others is

no_row : (s : Sizes) → false ≡ true → HasRoom s
no_row s h = absurd cc

-- What the table gives.
pub has_room : (s : Sizes) → IsGeometry s → HasRoom s
has_room s h =
    next_row s 512 1048576 2000 _ (omega arith) (omega arith) (omega arith) (omega arith) h (λ h.
    next_row s 4096 1048576 250 _ (omega arith) (omega arith) (omega arith) (omega arith) h (λ h.
    next_row s 4096 2097152 500 _ (omega arith) (omega arith) (omega arith) (omega arith) h (λ h.
    next_row s 4096 4194304 1000 _ (omega arith) (omega arith) (omega arith) (omega arith) h (λ h.
    next_row s 4096 8388608 2000 _ (omega arith) (omega arith) (omega arith) (omega arith) h (no_row s)))))

-- How many sectors the blocks have, with pairs and without.
pub sectors_of_pairs : (s : Sizes) → s.paired ≡ true → block_sectors (layout_of s) ≡ 2 * s.hosts
sectors_of_pairs s e = ap (λ (p : Bool). elim p as (λ _. ℕ) [ false ↦ s.hosts | true ↦ 2 * s.hosts ]) e

pub sectors_of_blocks : (s : Sizes) → s.paired ≡ false → block_sectors (layout_of s) ≡ s.hosts
sectors_of_blocks s e = ap (λ (p : Bool). elim p as (λ _. ℕ) [ false ↦ s.hosts | true ↦ 2 * s.hosts ]) e

-- ---- places in an area

inside : (base area offset : ℕ) → base ≤ offset → offset < base + area → (nat_le base offset && nat_lt offset (base + area)) ≡ true
inside base area offset low high = grind (arith, nat_tests)

-- A sector of number k of the area lies in it, where the area has room for it.
numbered : (base sector k n area : ℕ) → 1 ≤ sector → k + 1 ≤ n → sector * n ≤ area
    → (base ≤ base + sector * k) × (base + sector * k < base + area) × (base + sector * k + sector ≤ base + area)
numbered base sector k n area some below fits =
    let last : sector * (k + 1) ≤ sector * n = grind (arith) in
    let next : sector * (k + 1) ≡ sector * k + sector = grind (arith) in
    (omega arith, omega (arith, some, last, next, fits), omega (arith, last, next, fits))

lies_among : (s : Sizes) (base k n : ℕ) → HasRoom s → s.sector * n ≤ s.area → k + 1 ≤ n → LiesIn s base (place_at s (base + s.sector * k))
lies_among s base k n r room below =
    let p = numbered base s.sector k n s.area (omega (arith, r.sector.0)) below room in
    (inside base s.area (base + s.sector * k) p.0 p.1, p.2)

lies_at : (s : Sizes) (base k : ℕ) → HasRoom s → k ≤ s.hosts + 2 → LiesIn s base (place_at s (base + s.sector * k))
lies_at s base k r below = lies_among s base k (s.hosts + 3) r r.room (omega (arith, below))

at_offset : (s : Sizes) (base offset k : ℕ) → HasRoom s → k ≤ s.hosts + 2 → offset ≡ base + s.sector * k → LiesIn s base (place_at s offset)
at_offset s base offset k r below is = rw is (lies_at s base k r below)

at_end : (base sector area : ℕ) → 1 ≤ sector → sector ≤ area
    → (base ≤ base + area - sector) × (base + area - sector < base + area) × (base + area - sector + sector ≤ base + area)
at_end base sector area some fits = (omega (arith, fits), omega (arith, some, fits), omega (arith, fits))

small : (sector n area : ℕ) → sector * (n + 3) ≤ area → sector ≤ area
small sector n area h = grind (arith)

first_offset : (base sector : ℕ) → base ≡ base + sector * 0
first_offset base sector = omega arith

next_offset : (base sector : ℕ) → base + sector ≡ base + sector * 1
next_offset base sector = omega arith

-- The number of a pair's sector, which is among those of blocks.
abbrev pub pair_number : ℕ → Bool → ℕ
pair_number id first = 2 * id + (if first then 0 else 1)

among_blocks : (s : Sizes) (id : ℕ) (first : Bool) → IsHost s id → s.paired ≡ true → pair_number id first + 1 ≤ block_sectors (layout_of s) + 3
among_blocks s id true host paired = let n = sectors_of_pairs s paired in omega (arith, host.1, n)
among_blocks s id false host paired = let n = sectors_of_pairs s paired in omega (arith, host.1, n)

role_lies : (s : Sizes) (base : ℕ) → HasRoom s → (role : Role) → IsRole s role → LiesIn s base (place_at s (role_offset s base role))
role_lies s base r leader is = at_offset s base base 0 r (omega arith) (first_offset base s.sector)
role_lies s base r request is = at_offset s base (base + s.sector) 1 r (omega arith) (next_offset base s.sector)
role_lies s base r (block id) is = lies_at s base (id + 1) r (omega (arith, is.0.1))
role_lies s base r (pair id first) is =
    lies_among s base (pair_number id first) (block_sectors (layout_of s) + 3) r r.blocks (among_blocks s id first is.0 is.1)
role_lies s base r value is =
    let e = at_end base s.sector s.area (omega (arith, r.sector.0)) (small s.sector s.hosts s.area r.room) in
    (inside base s.area (base + s.area - s.sector) e.0 e.1, e.2)

-- Each sector lies in its area.
pub places_lie_in_area : PlacesLieInArea
places_lie_in_area s base is =
    let r = has_room s is in
    (λ id host. lies_at s base (id - 1) r (omega (arith, host.0, host.1)), λ role. role_lies s base r role)
