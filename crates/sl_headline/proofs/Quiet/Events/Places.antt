-- Where the calls of the course are: inside the area, and what they write is no other host's block, nor the own block that stands.
use Rattle.sl_area.specs.AreaSizes.{Layout, Sizes}
use Rattle.sl_area.specs.AreaLayout.{block_offset, block_place, block_sectors, in_area, pair_offset}
use Rattle.sl_safety.proofs.GivenReads.ShownAtPlace.{plain_place}
use Rattle.sl_safety.proofs.Pairs.Places.{area_number, below_number, blocks_number, pair_place, same_sides}
use Rattle.sl_ballot_law.proofs.Pairs.StepLaws.{alternate}
use Rattle.sl_words.proofs.Numbers.{at_least_first, refl_le}
use Rattle.sl_headline.specs.Quiet.Events.CarriedStages.{Asked, Frees_leader, IsCallAt, Reads_area, Reads_first, Reads_second, Sets_mode, Stage, Takes_leader, Writes_first, Writes_second, block_at, offset_at, op_at, turn_at}
use Rattle.sl_run_law.proofs.Place.Areas.{is_within}
use Rattle.sl_run_law.proofs.Place.Blocks.{blocks_within}
use Rattle.sl_run_law.proofs.Place.Checks.{behind, same_block}
use Rattle.sl_run_law.proofs.Place.MadeLeaders.{sectors_of_pairs}
use Rattle.sl_run_law.proofs.Place.Sizes.{IsSized, area_has_bytes, one_slot, sector_has_bytes, slot_below}
use Rattle.sl_sector.specs.SectorLayouts.{is_first_turn}
use Rattle.sl_trace.specs.Traces.{Submitted, is_write}
use Rattle.sl_words.proofs.CaseLaws.{true_is_false}
use Rattle.std.proofs.Common.{ap, arith, inl, inr, refl, subst, sym, ◌∙◌}
use Rattle.std.specs.Prelude.{Bool, IsTrue, false, not, true, ℕ, ◌*◌, ◌+◌, ◌<◌, ◌≡◌, ◌≤◌, ◌⊎◌}

-- ---- in the area

two_more : (id hosts : ℕ) → id ≤ hosts → id + 1 ≤ hosts + 2
two_more id hosts high = omega (arith, high)

pub single_within : {s : Sizes} (g : Layout) (base id : ℕ) → IsSized s g → id ≤ g.hosts → IsTrue (in_area g base (block_offset g base id))
single_within g base id z high =
    is_within g base (block_offset g base id) (at_least_first base (g.sector * (id + 1)))
    (slot_below g.sector base (id + 1) g.hosts g.area (sector_has_bytes g z) (two_more id g.hosts high) z.room)

-- All blocks are read from here on.
pub first_within : {s : Sizes} (g : Layout) (base : ℕ) → IsSized s g → IsTrue (in_area g base (block_offset g base 1))
first_within g base z = single_within g base 1 z z.hosts.0

pub pair_within : {s : Sizes} (g : Layout) (base id : ℕ) (first : Bool) → IsSized s g → g.paired ≡ true → (1 ≤ id) × (id ≤ g.hosts) → IsTrue (in_area g base (pair_offset g base id first))
pair_within g base id first z paired host =
    subst (λ o. IsTrue (in_area g base o)) (sym (pair_place g base id first host.0))
    (blocks_within g base (blocks_number id first) z (below_number id g.hosts (block_sectors g) first host.0 host.1 (sectors_of_pairs g paired)))

-- With pairs a turn's place is one of the two.
pub turn_place : (g : Layout) → g.paired ≡ true → (base id turn : ℕ) → block_place g base id turn ≡ pair_offset g base id (is_first_turn turn)
turn_place g paired base id turn = ap (λ b. elim b as (λ z. ℕ) [ false ↦ block_offset g base id | true ↦ pair_offset g base id (is_first_turn turn) ]) paired

pub turn_within : {s : Sizes} (g : Layout) (base id turn : ℕ) → IsSized s g → (1 ≤ id) × (id ≤ g.hosts) → IsTrue (in_area g base (block_place g base id turn))
turn_within g base id turn z host = by g.paired refl where
  by : (b : Bool) → g.paired ≡ b → IsTrue (in_area g base (block_place g base id turn))
  by false plain = subst (λ o. IsTrue (in_area g base o)) (sym (plain_place g plain base id turn)) (single_within g base id z host.1)
  by true paired = subst (λ o. IsTrue (in_area g base o)) (sym (turn_place g paired base id turn)) (pair_within g base id (is_first_turn turn) z paired host)

itself_below : (base area : ℕ) → 0 < area → base < base + area
itself_below base area h = omega (arith, h)

-- So is the leader.
pub leader_within : {s : Sizes} (g : Layout) (base : ℕ) → IsSized s g → IsTrue (in_area g base base)
leader_within g base z = is_within g base base (refl_le base) (itself_below base g.area (area_has_bytes g z))

-- ---- places where the call does not write

-- The call doesn't write at this place.
abbrev pub Misses : Submitted → ℕ → Type 0
Misses m o = is_write m.call.op ≡ true → m.call.offset ≡ o → ⊥

pub reads_on : (q : Asked) (stage : Stage) (m : Submitted) (o : ℕ) → IsCallAt q stage m → is_write (op_at q stage) ≡ false → Misses m o
reads_on q stage m o is reads writes at = true_is_false (sym writes ∙ (ap (λ op. is_write op) is.op ∙ reads))

-- A call reads, or writes the own block, or the leader.
abbrev OneOf : Asked → Stage → Type 0
OneOf q stage = (is_write (op_at q stage) ≡ false) ⊎ ((offset_at q stage ≡ block_at q stage) ⊎ (offset_at q stage ≡ q.resource.offset))

one_of : (q : Asked) (stage : Stage) → OneOf q stage
one_of q Reads_area = inl refl
one_of q Writes_first = inr (inl refl)
one_of q Reads_first = inl refl
one_of q Writes_second = inr (inl refl)
one_of q Reads_second = inl refl
one_of q Takes_leader = inr (inr refl)
one_of q Sets_mode = inr (inl refl)
one_of q Frees_leader = inr (inr refl)

-- Where each host's block has one sector: no other host's.
pub misses_single : {s : Sizes} (q : Asked) (stage : Stage) (m : Submitted) (host : ℕ) → IsSized s q.same.place.layout → q.same.place.layout.paired ≡ false → (host ≡ q.session.id → ⊥)
    → IsCallAt q stage m → Misses m (block_offset q.same.place.layout q.resource.offset host)
misses_single q stage m host z plain other is = by (one_of q stage) where
  g : Layout
  g = q.same.place.layout

  by : OneOf q stage → Misses m (block_offset g q.resource.offset host)
  by (inl reads) = reads_on q stage m (block_offset g q.resource.offset host) is reads
  by (inr (inl block)) =
      λ writes at.
      other (sym (same_block g q.resource.offset q.session.id host z (sym (is.offset ∙ (block ∙ plain_place g plain q.resource.offset q.session.id (turn_at q stage + 1))) ∙ at)))
  by (inr (inr leader)) = λ writes at. behind g q.resource.offset host z (sym (is.offset ∙ leader) ∙ at)

above_leader : (n : ℕ) (first : Bool) → 1 ≤ n → 0 ≡ area_number n first → ⊥
above_leader n true low is = omega (arith, low, is)
above_leader n false low is = omega (arith, low, is)

at_base : (base s : ℕ) → base + s * 0 ≡ base
at_base base s = omega arith

-- With pairs: no other host's sector, and of the own pair the one of the next turn alone.
pub misses_pair : {s : Sizes} (q : Asked) (stage : Stage) (m : Submitted) (host : ℕ) (first : Bool) → IsSized s q.same.place.layout → q.same.place.layout.paired ≡ true → 1 ≤ host
    → (q.session.id ≡ host → is_first_turn (turn_at q stage + 1) ≡ first → ⊥) → IsCallAt q stage m → Misses m (pair_offset q.same.place.layout q.resource.offset host first)
misses_pair q stage m host first z paired low other is = by (one_of q stage) where
  g : Layout
  g = q.same.place.layout

  by : OneOf q stage → Misses m (pair_offset g q.resource.offset host first)
  by (inl reads) = reads_on q stage m (pair_offset g q.resource.offset host first) is reads
  by (inr (inl block)) =
      λ writes at.
      let turn : ℕ = turn_at q stage + 1 in
      let same = same_sides q.session.id host (is_first_turn turn) first
      (one_slot g.sector q.resource.offset (area_number q.session.id (is_first_turn turn)) (area_number host first) (sector_has_bytes g z)
      (sym (is.offset ∙ (block ∙ turn_place g paired q.resource.offset q.session.id turn)) ∙ at)) in
      other same.0 same.1
  by (inr (inr leader)) =
      λ writes at.
      above_leader host first low
      (one_slot g.sector q.resource.offset 0 (area_number host first) (sector_has_bytes g z) (at_base q.resource.offset g.sector ∙ (sym (is.offset ∙ leader) ∙ at)))

not_itself : (b : Bool) → not b ≡ b → ⊥
not_itself true is = true_is_false (sym is)
not_itself false is = true_is_false is

-- The next turn's place is not that of this one.
pub turned : (n : ℕ) → is_first_turn (n + 1) ≡ is_first_turn n → ⊥
turned n is = not_itself (is_first_turn n) (sym (alternate n) ∙ is)

pub turned_back : (a b : Bool) → a ≡ not b → not a ≡ b
turned_back a true is = ap (λ t. not t) is
turned_back a false is = ap (λ t. not t) is
