-- Where records stand: at whole sectors of areas that begin at bases.
use Rattle.sl_area.specs.AreaSizes.{Layout}
use Rattle.sl_area.specs.AreaLayout.{block_offset, block_place, delta_offset, is_base, pair_offset, request_offset, value_offset}
use Rattle.sl_due_facts.proofs.Jobs.CallsStandInAreas.{IsWithin, base_whole, floor_is, roomy}
use Rattle.sl_run.specs.Lawful.{IsSetting}
use Rattle.sl_words.proofs.Numbers.{none_off}
use Rattle.sl_run_law.proofs.Place.Sizes.{IsSized, begins_at_sector, sector_has_bytes, sector_in_area, sized}
use Rattle.sl_sector.specs.SectorLayouts.{is_first_turn}
use Rattle.sl_trace.specs.Traces.{Setting}
use Rattle.std.proofs.Common.{ap, arith, suc, subst, sym, zero, ◌∙◌}
use Rattle.std.proofs.lemmas.Nat.{div-add-mod'}
use Rattle.std.specs.Prelude.{Bool, IsTrue, false, if◌then◌else◌, true, ℕ, ◌%◌, ◌*◌, ◌+◌, ◌-◌, ◌/◌, ◌<◌, ◌≡◌, ◌≤◌}

-- A setting's layout is one of the table.
pub layout_is : (st : Setting) → (h : IsSetting st) → IsSized h.layout.0 st.layout
layout_is st h = subst (λ (g : Layout). IsSized h.layout.0 g) (sym h.layout.2) (sized st.layout.digest h.layout.0 h.layout.1)

one_sector : (b s : ℕ) → b + s ≡ b + s * 1
one_sector b s = omega arith

no_sector : (b s : ℕ) → b ≡ b + s * 0
no_sector b s = omega arith

-- The last of some sectors.
last_sector : (b s area q : ℕ) → q * s ≡ area → 0 < s → s ≤ area → (k : ℕ) × (b + area - s ≡ b + s * k)
last_sector b s area zero is some fits = absurd (omega (arith, is, some, fits))
last_sector b s area (suc q) is some fits = (q, omega (arith, is, some, fits))

whole_quotient : (area s : ℕ) → area % s ≡ 0 → area / s * s ≡ area
whole_quotient area s none = let whole : area / s * s + area % s ≡ area = div-add-mod' area s in omega (arith, whole, none)

module _ (st : Setting) (h : IsSetting st) (b : ℕ) (base : IsTrue (is_base st.layout b)) where
  aligned : b % st.layout.area ≡ 0
  aligned = base_whole st.layout b base

  numbered : (k : ℕ) → (b + st.layout.sector * k) % st.layout.sector ≡ 0
  numbered k = begins_at_sector st.layout.sector st.layout.area b k (layout_is st h).whole aligned

  at_sector : (o k : ℕ) → o ≡ b + st.layout.sector * k → o % st.layout.sector ≡ 0
  at_sector o k is = ap (λ n. n % st.layout.sector) is ∙ numbered k

  pub delta_whole : (id : ℕ) → delta_offset st.layout b id % st.layout.sector ≡ 0
  delta_whole id = numbered (id - 1)

  pub base_at_sector : b % st.layout.sector ≡ 0
  base_at_sector = at_sector b 0 (no_sector b st.layout.sector)

  pub request_whole : request_offset st.layout b % st.layout.sector ≡ 0
  request_whole = at_sector (request_offset st.layout b) 1 (one_sector b st.layout.sector)

  -- A host's block of any turn, and the first of all blocks.
  pub block_whole : (id turn : ℕ) → block_place st.layout b id turn % st.layout.sector ≡ 0
  block_whole id turn = by st.layout.paired where
    by : (paired : Bool) → elim paired as (λ z. ℕ) [ false ↦ block_offset st.layout b id | true ↦ pair_offset st.layout b id (is_first_turn turn) ] % st.layout.sector ≡ 0
    by false = numbered (id + 1)
    by true = numbered (2 * id + (if is_first_turn turn then 0 else 1))

  pub first_whole : block_offset st.layout b 1 % st.layout.sector ≡ 0
  first_whole = numbered (1 + 1)

  pub value_whole : value_offset st.layout b % st.layout.sector ≡ 0
  value_whole =
      let z = layout_is st h in
      let k = last_sector b st.layout.sector st.layout.area (st.layout.area / st.layout.sector) (whole_quotient st.layout.area st.layout.sector z.whole) (sector_has_bytes st.layout z) (sector_in_area st.layout z) in
      at_sector (value_offset st.layout b) k.0 k.1

  -- ---- the area of a lease's call

  pub base_in : IsTrue (is_base st.layout (b - b % st.layout.area))
  base_in = subst (λ n. IsTrue (is_base st.layout n)) (sym (none_off b (b % st.layout.area) aligned)) base

  pub block_in : (id turn : ℕ) → id ≤ st.layout.hosts → IsTrue (is_base st.layout (block_place st.layout b id turn - block_place st.layout b id turn % st.layout.area))
  block_in id turn most =
      let w : IsWithin st.layout b (block_place st.layout b id turn) = (roomy st h).blocks b id turn most in
      subst (λ n. IsTrue (is_base st.layout n)) (sym (ap (λ n. n - n % st.layout.area) w.is ∙ floor_is st.layout.area b w.above aligned w.less)) base

  pub first_in : IsTrue (is_base st.layout (block_offset st.layout b 1 - block_offset st.layout b 1 % st.layout.area))
  first_in = subst (λ n. IsTrue (is_base st.layout n)) (sym (floor_is st.layout.area b (st.layout.sector * (1 + 1)) aligned (roomy st h).first)) base
