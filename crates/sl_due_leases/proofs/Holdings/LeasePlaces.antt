-- Where a lease's calls stand: in the area of its spot, and in no other's.
use Rattle.sl_area.proofs.SizeLaws.{HasRoom, has_room}
use Rattle.sl_area.specs.AreaSizes.{Layout}
use Rattle.sl_area.specs.AreaLayout.{block_offset, block_place, in_area}
use Rattle.sl_area.specs.Roles.{leader}
use Rattle.sl_due_leases.proofs.Ways.WayFactsHeld.PlacesStand.{block_is_on, first_is_on, place_is_on, placed_on}
use Rattle.sl_run.specs.Lawful.{IsSetting}
use Rattle.sl_trace.specs.Leases.{is_on, spot_of_call}
use Rattle.sl_words.proofs.Numbers.{none_off}
use Rattle.sl_trace.specs.Traces.{Setting, Submitted, new_call}
use Rattle.sl_trace.specs.declared.effects.Call.{Call}
use Rattle.sl_trace.specs.declared.effects.Op.TheVariants.{ReadSectors}
use Rattle.sl_trace.specs.declared.effects.Purpose.TheVariants.{Renewal}
use Rattle.sl_trace.specs.declared.effects.Spot.{Spot}
use Rattle.sl_run_law.proofs.Leases.SpotLaws.{areas_are_apart}
use Rattle.std.proofs.Common.{ap, arith, subst, sym, ◌∙◌}
use Rattle.std.specs.Prelude.{List, true, ℕ, ◌%◌, ◌*◌, ◌+◌, ◌<◌, ◌≡◌, ◌≤◌}

-- ---- one spot

-- A call at the head of a spot.
abbrev head_of : Spot → Submitted
head_of at = new_call 0 0 (record { number = 0; session = 0; purpose = Renewal; path = at.path; offset = at.base; op = ReadSectors 0 })

head_there : (g : Layout) (at : Spot) → at.base % g.area ≡ 0 → spot_of_call g (head_of at) ≡ at
head_there g at aligned = ap (λ n. spot at.path n) (none_off at.base (at.base % g.area) aligned) where
  spot : List ℕ → ℕ → Spot
  spot p n = record { path = p; base = n }

-- No call is on two areas.
pub one_area : (g : Layout) (a b : Spot) (d : Submitted) → a.base % g.area ≡ 0 → b.base % g.area ≡ 0 → is_on g a d.call ≡ true → is_on g b d.call ≡ true → a ≡ b
one_area g a b d here there on_a on_b =
    let first : spot_of_call g d ≡ spot_of_call g (head_of a) = areas_are_apart g (head_of a) d (subst (λ z. is_on g z d.call ≡ true) (sym (head_there g a here)) on_a) in
    let second : spot_of_call g d ≡ spot_of_call g (head_of b) = areas_are_apart g (head_of b) d (subst (λ z. is_on g z d.call ≡ true) (sym (head_there g b there)) on_b) in
    sym (head_there g a here) ∙ (sym first ∙ (second ∙ head_there g b there))

-- ---- in its area

some_area : (sector hosts area : ℕ) → 1 ≤ sector → sector * (hosts + 3) ≤ area → 0 < area
some_area sector hosts area some fits = grind (arith)

pub area_is : (st : Setting) → IsSetting st → 0 < st.layout.area
area_is st is =
    let h : HasRoom is.layout.0 = has_room is.layout.0 is.layout.1 in
    let one : 512 ≤ is.layout.0.sector = h.sector.0 in
    subst (λ (g : Layout). 0 < g.area) (sym is.layout.2) (some_area is.layout.0.sector is.layout.0.hosts is.layout.0.area (omega (arith, one)) h.room)

-- Leader and area stand at the base.
pub base_on : (st : Setting) (at : Spot) (c : Call) → IsSetting st → c.path ≡ at.path → c.offset ≡ at.base → is_on st.layout at c ≡ true
base_on st at c is path offset = placed_on st at c path (ap (λ n. in_area st.layout at.base n) offset ∙ place_is_on st is at.base leader tt)

-- The blocks stand from the first host's.
pub blocks_on : (st : Setting) (at : Spot) (id : ℕ) (c : Call) → IsSetting st → (1 ≤ id) × (id ≤ st.layout.hosts) → c.path ≡ at.path → c.offset ≡ block_offset st.layout at.base 1 → is_on st.layout at c ≡ true
blocks_on st at id c is host path offset = placed_on st at c path (ap (λ n. in_area st.layout at.base n) offset ∙ first_is_on st is at.base id host)

-- A host's block, of any turn.
pub own_on : (st : Setting) (at : Spot) (id turn : ℕ) (c : Call) → IsSetting st → (1 ≤ id) × (id ≤ st.layout.hosts) → c.path ≡ at.path → c.offset ≡ block_place st.layout at.base id turn → is_on st.layout at c ≡ true
own_on st at id turn c is host path offset = placed_on st at c path (ap (λ n. in_area st.layout at.base n) offset ∙ block_is_on st is at.base id turn host)
