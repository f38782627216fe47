-- A call on a resource's area is of the area where it begins.
use Rattle.sl_area.proofs.SizeLaws.{HasRoom, has_room, sectors_of_pairs}
use Rattle.sl_area.specs.AreaSizes.{Layout, Sizes, layout_of, layout_with}
use Rattle.sl_area.specs.AreaLayout.{block_place, block_sectors, is_base}
use Rattle.sl_run.specs.Lawful.{IsSetting}
use Rattle.sl_trace.specs.Leases.{spot_of_call}
use Rattle.sl_words.proofs.Numbers.{plus_zero}
use Rattle.sl_sector.specs.SectorLayouts.{is_first_turn}
use Rattle.sl_trace.specs.Traces.{Setting, Submitted}
use Rattle.sl_trace.specs.declared.effects.Spot.{Spot}
use Rattle.sl_words.proofs.WordLaws.{and_true}
use Rattle.std.proofs.Common.{ap, arith, inl, inr, mod-lt, refl, subst, sym, ◌^◌, ◌∙◌}
use Rattle.std.proofs.Math.Nat.{mul-mod_right, div-add-mod, mul-le-mul_left}
use Rattle.std.proofs.lemmas.Bool.{cases_lt, eqb-true}
use Rattle.std.specs.Prelude.{Bool, IsTrue, List, false, if◌then◌else◌, nat_lt, true, ℕ, ◌%◌, ◌*◌, ◌+◌, ◌-◌, ◌/◌, ◌<◌, ◌==◌, ◌≡◌, ◌≤◌}

one_multiple : (size p q r s : ℕ) → r < size → s < size → size * p + r ≡ size * q + s → p ≡ q
one_multiple size p q r s low low' same =
    elim (cases_lt p q) [
      | inl less ↦ absurd (let more : size * (p + 1) ≤ size * q = mul-le-mul_left size (omega (arith, less)) in omega (arith, more, low, low', same))
      | inr up ↦
          elim (cases_lt q p) [
            | inl less ↦ absurd (let more : size * (q + 1) ≤ size * p = mul-le-mul_left size (omega (arith, less)) in omega (arith, more, low, low', same))
            | inr down ↦ omega (arith, up, down)
          ]
    ]

-- What begins at a multiple of a size, and stays within it, begins there.
pub floor_is : (size base d : ℕ) → base % size ≡ 0 → d < size → base + d - (base + d) % size ≡ base
floor_is size base d whole less =
    let own : size * (base / size) + base % size ≡ base = div-add-mod base size in
    let other : size * ((base + d) / size) + (base + d) % size ≡ base + d = div-add-mod (base + d) size in
    let some : 0 < size = omega (arith, less) in
    let rest : (base + d) % size < size = mod-lt (base + d) some in
    let same : base / size ≡ (base + d) / size = one_multiple size (base / size) ((base + d) / size) d ((base + d) % size) less rest (omega (arith, own, other, whole)) in
    let more : size * (base / size) ≡ size * ((base + d) / size) = ap (λ k. size * k) same in
    omega (arith, own, other, whole, more)

pub floor_whole : (size o : ℕ) → 0 < size → (o - o % size) % size ≡ 0
floor_whole size o some =
    let own : size * (o / size) + o % size ≡ o = div-add-mod o size in
    let is : o - o % size ≡ size * (o / size) = omega (arith, own) in
    ap (λ k. k % size) is ∙ mul-mod_right size (o / size)

pub base_whole : (g : Layout) (o : ℕ) → IsTrue (is_base g o) → o % g.area ≡ 0
base_whole g o h = eqb-true (o % g.area) 0 (and_true (o % g.area == 0) (nat_lt o (10 ^ 12)) h).0

-- ---- where records stand

-- A place some bytes above a base, within its area.
pub record IsWithin (g : Layout) (base offset : ℕ) : Type 0 where
  pub above : ℕ
  pub less : above < g.area
  pub is : offset ≡ base + above

pub record Roomy (g : Layout) : Type 0 where
  pub some : 0 < g.sector
  pub whole : 0 < g.area
  pub blocks : (base id turn : ℕ) → id ≤ g.hosts → IsWithin g base (block_place g base id turn)
  pub two : g.sector < g.area
  pub first : g.sector * (1 + 1) < g.area

-- Sector k of an area that has room for n.
sector_within : (sector k n area : ℕ) → 512 ≤ sector → k + 1 ≤ n → sector * n ≤ area → sector * k < area
sector_within sector k n area some few room = let much : sector * (k + 1) ≤ sector * n = mul-le-mul_left sector few in omega (arith, some, room, much)

-- A host's block, of one sector or of two.
blocks_within : (digest : List ℕ → List ℕ) (s : Sizes) → HasRoom s → (base id turn : ℕ) → id ≤ s.hosts → IsWithin (layout_with digest s) base (block_place (layout_with digest s) base id turn)
blocks_within digest s r base id turn most = by s.paired refl (is_first_turn turn) where
  g : Layout
  g = layout_with digest s

  second : (n : ℕ) → n ≡ 2 * s.hosts → 2 * id + 1 + 1 ≤ n + 3
  second n is = omega (arith, is, most)

  first : (n : ℕ) → n ≡ 2 * s.hosts → 2 * id + 0 + 1 ≤ n + 3
  first n is = omega (arith, is, most)

  by : (paired : Bool) → s.paired ≡ paired → (odd : Bool)
      → IsWithin g base (elim paired as (λ z. ℕ) [ false ↦ base + s.sector * (id + 1) | true ↦ base + s.sector * (2 * id + (if odd then 0 else 1)) ])
  by false is odd = record { above = s.sector * (id + 1); less = sector_within s.sector (id + 1) (s.hosts + 3) s.area r.sector.0 (omega (arith, most)) r.room; is = refl }
  by true is true =
      record {
        above = s.sector * (2 * id + 0);
        less = sector_within s.sector (2 * id + 0) (block_sectors (layout_of s) + 3) s.area r.sector.0 (first (block_sectors (layout_of s)) (sectors_of_pairs s is)) r.blocks;
        is = refl;
      }
  by true is false =
      record {
        above = s.sector * (2 * id + 1);
        less = sector_within s.sector (2 * id + 1) (block_sectors (layout_of s) + 3) s.area r.sector.0 (second (block_sectors (layout_of s)) (sectors_of_pairs s is)) r.blocks;
        is = refl;
      }

pub roomy : (st : Setting) → IsSetting st → Roomy st.layout
roomy st h =
    let g : Sizes = h.layout.0 in
    let r : HasRoom g = has_room g h.layout.1 in
    subst (λ (l : Layout). Roomy l) (sym h.layout.2) (record {
      some = omega (arith, r.sector.0);
      whole = let much : g.sector * 3 ≤ g.sector * (g.hosts + 3) = mul-le-mul_left g.sector (omega arith) in omega (arith, r.sector.0, r.room, much);
      blocks = blocks_within st.layout.digest g r;
      first = let much : g.sector * 3 ≤ g.sector * (g.hosts + 3) = mul-le-mul_left g.sector (omega arith) in omega (arith, r.sector.0, r.room, much);
      two = let much : g.sector * 3 ≤ g.sector * (g.hosts + 3) = mul-le-mul_left g.sector (omega arith) in omega (arith, r.sector.0, r.room, much);
    })

abbrev spot_at : List ℕ → ℕ → Spot
spot_at path n = record { path = path; base = n }

-- A call on an area, some bytes above its base.
pub stands_in : (g : Layout) (m : Submitted) (at : Spot) (d : ℕ) → at.base % g.area ≡ 0 → d < g.area → m.call.path ≡ at.path → m.call.offset ≡ at.base + d → spot_of_call g m ≡ at
stands_in g m at d whole less path offset =
    ap (λ p. spot_at p (m.call.offset - m.call.offset % g.area)) path
    ∙ (ap (λ o. spot_at at.path (o - o % g.area)) offset ∙ ap (λ n. spot_at at.path n) (floor_is g.area at.base d whole less))

pub at_base : (g : Layout) (m : Submitted) (at : Spot) → 0 < g.area → at.base % g.area ≡ 0 → m.call.path ≡ at.path → m.call.offset ≡ at.base → spot_of_call g m ≡ at
at_base g m at some whole path offset = stands_in g m at 0 whole some path (offset ∙ plus_zero at.base)

-- The base of a call's area is whole.
pub spot_whole : (g : Layout) (m : Submitted) → 0 < g.area → (spot_of_call g m).base % g.area ≡ 0
spot_whole g m some = floor_whole g.area m.call.offset some
