-- The sectors of a host's pair, and that nothing else is written there.
use Rattle.sl_area.specs.AreaSizes.{Layout}
use Rattle.sl_area.specs.AreaLayout.{block_sectors, in_area, leader_offset, pair_offset, request_offset, value_offset}
use Rattle.sl_safety.proofs.Resources.Calls.{host_range}
use Rattle.sl_safety.specs.Resources.Histories.{is_host}
use Rattle.sl_run.specs.LawfulArea.{is_of_format, record_offset}
use Rattle.sl_run.specs.Worlds.{World}
use Rattle.sl_run_law.proofs.Place.Blocks.{blocks_place, blocks_within}
use Rattle.sl_run_law.proofs.Place.MadeLeaders.{sectors_of_pairs}
use Rattle.sl_run_law.proofs.Place.Sizes.{IsSized, one_slot, sector_has_bytes}
use Rattle.sl_sector.specs.SectorLayouts.{is_first_turn}
use Rattle.sl_sector.specs.declared.sector.PairBlock.{PairBlock}
use Rattle.sl_sector.specs.declared.sector.Rec.TheVariants.{BlockIs, DeltaIs, LeaderIs, PairIs, PairLeaderIs, RequestIs, ValueIs}
use Rattle.sl_sector.specs.declared.sector.Rec.{Rec}
use Rattle.sl_trace.specs.Traces.{Setting}
use Rattle.sl_trace.specs.declared.effects.Spot.{Spot}
use Rattle.sl_trace.specs.declared.session.Session.{Session}
use Rattle.sl_words.proofs.CaseLaws.{none_some, some_value, true_is_false}
use Rattle.std.proofs.Common.{ap, arith, refl, subst, sym, ◌∙◌}
use Rattle.std.proofs.Math.Nat.{mul-le-mul_left}
use Rattle.std.specs.Prelude.{Bool, IsTrue, Some, false, if◌then◌else◌, not, true, ℕ, ◌*◌, ◌+◌, ◌-◌, ◌<◌, ◌≡◌, ◌≤◌}

-- ---- numbers of sectors

-- Among the sectors of the area, and among those of the blocks.
abbrev pub area_number : ℕ → Bool → ℕ
area_number k first = 2 * k + (if first then 0 else 1)

abbrev pub blocks_number : ℕ → Bool → ℕ
blocks_number k first = 2 * (k - 1) + (if first then 0 else 1)

pub numbers_agree : (k : ℕ) (first : Bool) → 1 ≤ k → area_number k first ≡ blocks_number k first + 2
numbers_agree k true low = omega (arith, low)
numbers_agree k false low = omega (arith, low)

low_number : (k : ℕ) (first : Bool) → 1 ≤ k → 2 ≤ area_number k first
low_number k true low = omega (arith, low)
low_number k false low = omega (arith, low)

pub same_sides : (i j : ℕ) (a b : Bool) → area_number i a ≡ area_number j b → (i ≡ j) × (a ≡ b)
same_sides i j true true e = (omega (arith, e), refl)
same_sides i j true false e = absurd (omega (arith, e))
same_sides i j false true e = absurd (omega (arith, e))
same_sides i j false false e = (omega (arith, e), refl)

high_number : (k hosts sectors : ℕ) (first : Bool) → k ≤ hosts → sectors ≡ 2 * hosts → area_number k first ≤ sectors + 1
high_number k hosts sectors true high is = omega (arith, high, is)
high_number k hosts sectors false high is = omega (arith, high, is)

pub below_number : (k hosts sectors : ℕ) (first : Bool) → 1 ≤ k → k ≤ hosts → sectors ≡ 2 * hosts → blocks_number k first < sectors
below_number k hosts sectors true low high is = omega (arith, low, high, is)
below_number k hosts sectors false low high is = omega (arith, low, high, is)

-- ---- in the area

pub pair_place : (g : Layout) (base k : ℕ) (first : Bool) → 1 ≤ k → pair_offset g base k first ≡ blocks_place g base (blocks_number k first)
pair_place g base k first low = ap (λ n. base + g.sector * n) (numbers_agree k first low)

pub pair_within : {s : _} (w : World) (base k : ℕ) (first : Bool) → IsSized s w.layout → w.layout.paired ≡ true → is_host w k ≡ true
    → IsTrue (in_area w.layout base (pair_offset w.layout base k first))
pair_within w base k first z paired host =
    let range = host_range w k host in
    subst (λ o. IsTrue (in_area w.layout base o)) (sym (pair_place w.layout base k first range.0))
    (blocks_within w.layout base (blocks_number k first) z
    (below_number k w.layout.hosts (block_sectors w.layout) first range.0 range.1 (sectors_of_pairs w.layout paired)))

-- ---- what is written there

no_leader : (base s n : ℕ) → 0 < s → 2 ≤ n → base ≡ base + s * n → ⊥
no_leader base s n some low h =
    let first : base + s * 0 ≡ base = omega arith in
    let same : 0 ≡ n = one_slot s base 0 n some (first ∙ h) in
    omega (arith, same, low)

no_request : (base s n : ℕ) → 0 < s → 2 ≤ n → base + s ≡ base + s * n → ⊥
no_request base s n some low h =
    let first : base + s * 1 ≡ base + s = omega arith in
    let same : 1 ≡ n = one_slot s base 1 n some (first ∙ h) in
    omega (arith, same, low)

no_value : (base s area n sectors : ℕ) → 0 < s → n ≤ sectors + 1 → s * (sectors + 3) ≤ area → base + area - s ≡ base + s * n → ⊥
no_value base s area n sectors some high room h =
    let most : s * n ≤ s * (sectors + 1) = mul-le-mul_left s high in
    let more : s * (sectors + 3) ≡ s * (sectors + 1) + s * 2 = grind arith in
    let two : s * 2 ≡ s + s = grind arith in
    omega (arith, some, most, more, two, room, h)

-- A pair's block of that host, of a turn of that sector.
pub record IsPairOf (s : Session) (k : ℕ) (first : Bool) (r : Rec) : Type 0 where
  pub pair : PairBlock
  pub is : r ≡ PairIs pair
  pub host : s.id ≡ k
  pub side : is_first_turn pair.turn ≡ first

not_of_kind : (b : Bool) → b ≡ true → not b ≡ true → ⊥
not_of_kind b paired h = true_is_false (sym h ∙ ap not paired)

pub only_pairs : {sizes : _} (st : Setting) (w : World) (s : Session) (at : Spot) (k : ℕ) (first : Bool) (r : Rec) (o : ℕ) → w.layout.paired ≡ true → is_of_format w.layout r ≡ true
    → st.layout ≡ w.layout → IsSized sizes w.layout → is_host w k ≡ true → record_offset st s at r ≡ Some o → o ≡ pair_offset w.layout at.base k first → IsPairOf s k first r
only_pairs st w s at k first (DeltaIs d) o paired format layout z host placed here = absurd (none_some o placed)
only_pairs st w s at k first (LeaderIs d) o paired format layout z host placed here = absurd (not_of_kind w.layout.paired paired format)
only_pairs st w s at k first (BlockIs d) o paired format layout z host placed here = absurd (not_of_kind w.layout.paired paired format)
only_pairs st w s at k first (PairLeaderIs d) o paired format layout z host placed here =
    absurd (no_leader at.base w.layout.sector (area_number k first) (sector_has_bytes w.layout z) (low_number k first (host_range w k host).0)
    (some_value (leader_offset at.base) o placed ∙ here))
only_pairs st w s at k first (RequestIs d) o paired format layout z host placed here =
    absurd (no_request at.base w.layout.sector (area_number k first) (sector_has_bytes w.layout z) (low_number k first (host_range w k host).0)
    (ap (λ (g : Layout). request_offset g at.base) (sym layout) ∙ some_value (request_offset st.layout at.base) o placed ∙ here))
only_pairs st w s at k first (ValueIs d) o paired format layout z host placed here =
    absurd (no_value at.base w.layout.sector w.layout.area (area_number k first) (block_sectors w.layout) (sector_has_bytes w.layout z)
    (high_number k w.layout.hosts (block_sectors w.layout) first (host_range w k host).1 (sectors_of_pairs w.layout paired)) z.blocks
    (ap (λ (g : Layout). value_offset g at.base) (sym layout) ∙ some_value (value_offset st.layout at.base) o placed ∙ here))
only_pairs st w s at k first (PairIs q) o paired format layout z host placed here =
    let same : pair_offset w.layout at.base s.id (is_first_turn q.turn) ≡ pair_offset w.layout at.base k first =
    ap (λ (g : Layout). pair_offset g at.base s.id (is_first_turn q.turn)) (sym layout) ∙ some_value (pair_offset st.layout at.base s.id (is_first_turn q.turn)) o placed ∙ here in
    let sides = same_sides s.id k (is_first_turn q.turn) first
    (one_slot w.layout.sector at.base (area_number s.id (is_first_turn q.turn)) (area_number k first) (sector_has_bytes w.layout z) same) in
    record { pair = q; is = refl; host = sides.0; side = sides.1 }
