-- A read of an area shows what stands there.
use Rattle.sl_area.specs.AreaSizes.{Layout, record_in}
use Rattle.sl_area.specs.AreaLayout.{area_sectors, block_offset, block_sectors, blocks_in, blocks_part, leader_of, leader_spelled, read_at, sector_of}
use Rattle.sl_area.specs.Pairs.{blocks_of, later_pair, pair_back, pair_front, pair_merged, pairs_of, read_once}
use Rattle.sl_headline.proofs.Quiet.Reads.NewestIsRead.{reads_give_what_stands}
use Rattle.sl_headline.specs.Quiet.Reads.ReadsShowArea.{GivesBlocks, ReadStands, ReadsShowTheArea, blocks_there}
use Rattle.sl_run.specs.Quiet.{leader_there}
use Rattle.sl_run.specs.Runs.{Happening}
use Rattle.sl_run.specs.Safety.{LawfulRun, block_there, pair_there, world_at}
use Rattle.sl_run.specs.Worlds.{Course, Machine, Program, World, content, machine_at}
use Rattle.sl_run.specs.declared.header.Header.{Header}
use Rattle.sl_run_law.specs.Sample.Samples.{sector_place}
use Rattle.sl_sector.specs.SectorLayouts.{block_in, pair_in}
use Rattle.sl_sector.specs.declared.sector.Block.{Block}
use Rattle.sl_sector.specs.declared.sector.PairBlock.{PairBlock}
use Rattle.sl_trace.specs.declared.effects.Spot.{Spot}
use Rattle.sl_safety.proofs.Pairs.Places.{below_number, blocks_number, pair_place}
use Rattle.sl_run_law.proofs.Place.Blocks.{behind_two, blocks_place}
use Rattle.sl_run_law.proofs.Place.MadeLeaders.{sectors_of_pairs}
use Rattle.std.proofs.Common.{ap, ap₂, arith, refl, subst, sym, ◌∙◌}
use Rattle.std.specs.List.{range_with_len}
use Rattle.std.specs.Prelude.{Bool, Contains, List, Option, Some, [], false, map, option_map, suc, true, zero, ℕ, ◌*◌, ◌+◌, ◌-◌, ◌<◌, ◌∷◌, ◌≡◌, ◌≤◌}

-- ---- numbers

least_is : (b : ℕ) → b ≤ b
least_is b = omega arith

first_in : (a n : ℕ) → a < a + suc n
first_in a n = omega arith

next_in : (a k n : ℕ) → a + 1 ≤ k → k < (a + 1) + n → (a ≤ k) × (k < a + suc n)
next_in a k n low high = (omega (arith, low), omega (arith, high))

pub same_on : {A : Type 0} (f g : ℕ → A) (a n : ℕ) → ((k : ℕ) → a ≤ k → k < a + n → f k ≡ g k) → map f (range_with_len a n) ≡ map g (range_with_len a n)
same_on f g a zero h = refl
same_on f g a (suc n) h =
    ap (λ x. x ∷ map f (range_with_len (a + 1) n)) (h a (least_is a) (first_in a n))
    ∙ ap (λ xs. g a ∷ xs) (same_on f g (a + 1) n (λ k low high. let r = next_in a k n low high in h k r.0 r.1))

place_of_leader : (base s : ℕ) → base + 0 * s ≡ base
place_of_leader base s = grind arith

place_in_area : (base s j : ℕ) → base + (j + 2) * s ≡ base + s * (j + 2)
place_in_area base s j = grind arith

place_in_blocks : (base s j : ℕ) → base + s * (1 + 1) + j * s ≡ base + s * (j + 2)
place_in_blocks base s j = grind arith

below_area : (j n : ℕ) → j < n → j + 2 < n + 2
below_area j n low = omega (arith, low)

some_sector : (n : ℕ) → 0 < n + 2
some_sector n = omega arith

-- Of a block that has one sector.
single_place : (g : Layout) (base k : ℕ) → 1 ≤ k → blocks_place g base (k - 1) ≡ block_offset g base k
single_place g base k low = let n : k - 1 + 2 ≡ k + 1 = omega (arith, low) in ap (λ i. base + g.sector * i) n

single_below : (k n : ℕ) → 1 ≤ k → k < 1 + n → k - 1 < n
single_below k n low high = omega (arith, low, high)

last_in : (k n : ℕ) → k < 1 + n → k ≤ n
last_in k n high = omega (arith, high)

-- ---- the blocks, of either kind

-- Where each sector of the blocks is what stands at its place.
abbrev GivesSectors : World → Spot → List ℕ → Type 0
GivesSectors w at bytes = (j : ℕ) → j < block_sectors w.layout → sector_of w.layout bytes j ≡ content w at.path (blocks_place w.layout at.base j)

gives_pair : (w : World) (at : Spot) (bytes : List ℕ) → GivesSectors w at bytes → w.layout.paired ≡ true → (k : ℕ) → 1 ≤ k → k ≤ w.layout.hosts → (first : Bool)
    → pair_in k first (read_at w.layout bytes (blocks_number k first)) ≡ pair_there w at k first
gives_pair w at bytes each paired k low high first =
    let g : Layout = w.layout in
    ap (λ bs. pair_in k first (record_in g bs))
    (each (blocks_number k first) (below_number k g.hosts (block_sectors g) first low high (sectors_of_pairs g paired)) ∙ ap (λ o. content w at.path o) (sym (pair_place g at.base k first low)))

front_number : (k : ℕ) → 2 * (k - 1) ≡ blocks_number k true
front_number k = omega arith

gives_pairs : (w : World) (at : Spot) (bytes : List ℕ) → GivesSectors w at bytes → w.layout.paired ≡ true → (k : ℕ) → 1 ≤ k → k ≤ w.layout.hosts
    → (pair_front w.layout bytes k ≡ pair_there w at k true) × (pair_back w.layout bytes k ≡ pair_there w at k false)
gives_pairs w at bytes each paired k low high = (
  ap (λ n. pair_in k true (read_at w.layout bytes n)) (front_number k) ∙ gives_pair w at bytes each paired k low high true,
  gives_pair w at bytes each paired k low high false,
)

mapped_twice : {A B C : Type 0} (f : A → B) (h : B → C) (xs : List A) → map h (map f xs) ≡ map (λ x. h (f x)) xs
mapped_twice f h [] = refl
mapped_twice f h (x ∷ xs) = ap (λ ys. h (f x) ∷ ys) (mapped_twice f h xs)

gives_blocks : (w : World) (at : Spot) (bytes : List ℕ) → GivesSectors w at bytes → GivesBlocks w at bytes
gives_blocks w at bytes each = record { blocks = by g.paired refl; pairs = gives_pairs w at bytes each } where
  g : Layout
  g = w.layout

  of_kind : Bool → List (Option Block)
  of_kind b = elim b [ false ↦ blocks_in g bytes | true ↦ map (λ p. option_map (λ (q : PairBlock). q.block) p) (pairs_of g (read_once bytes)) ]

  there_of_kind : ℕ → Bool → Option Block
  there_of_kind k b = elim b [
    | false ↦ block_in k (record_in g (content w at.path (block_offset g at.base k)))
    | true ↦ option_map (λ (p : PairBlock). p.block) (later_pair (pair_there w at k true) (pair_there w at k false))
  ]

  single : g.paired ≡ false → (k : ℕ) → 1 ≤ k → k < 1 + g.hosts → block_in k (read_at g bytes (k - 1)) ≡ block_there w at k
  single plain k low high =
      ap (λ bs. block_in k (record_in g bs))
      (each (k - 1) (subst (λ n. k - 1 < n) (sym (ap (λ b. elim b as (λ z. ℕ) [ false ↦ g.hosts | true ↦ 2 * g.hosts ]) plain)) (single_below k g.hosts low high))
      ∙ ap (λ o. content w at.path o) (single_place g at.base k low))
      ∙ sym (ap (there_of_kind k) plain)

  double : g.paired ≡ true → (k : ℕ) → 1 ≤ k → k < 1 + g.hosts → option_map (λ (q : PairBlock). q.block) (pair_merged g (read_once bytes) k) ≡ block_there w at k
  double paired k low high =
      let both = gives_pairs w at bytes each paired k low (last_in k g.hosts high) in
      ap (λ p. option_map (λ (q : PairBlock). q.block) p) (ap₂ (λ a b. later_pair a b) both.0 both.1) ∙ sym (ap (there_of_kind k) paired)

  by : (b : Bool) → g.paired ≡ b → blocks_of g (read_once bytes) ≡ blocks_there w at
  by false plain = ap of_kind plain ∙ same_on (λ k. block_in k (read_at g bytes (k - 1))) (block_there w at) 1 g.hosts (single plain)
  by true paired =
      ap of_kind paired
      ∙ (mapped_twice (pair_merged g (read_once bytes)) (λ p. option_map (λ (q : PairBlock). q.block) p) (range_with_len 1 g.hosts)
      ∙ same_on (λ k. option_map (λ (q : PairBlock). q.block) (pair_merged g (read_once bytes) k)) (block_there w at) 1 g.hosts (double paired))

-- ---- one sector

gives : (p : Program) (h : Header) (xs : List Happening) → LawfulRun p h xs → (m : ℕ) (a : Machine) (c : Course) (path : List ℕ) (n k offset : ℕ)
    → machine_at (world_at p h xs) m ≡ Some a → Contains a.calls c → c.call.path ≡ path → ReadStands (world_at p h xs) c n → k < n
    → sector_place (world_at p h xs) c k ≡ offset → sector_of (world_at p h xs).layout c.sampled k ≡ content (world_at p h xs) path offset
gives p h xs run m a c path n k offset at has is r within place =
    let w : World = world_at p h xs in
    reads_give_what_stands p h xs run m a c k at has (subst (λ y. k < y) (sym r.whole) within) (r.stands k within)
    ∙ ap (λ y. content w y (sector_place w c k)) is ∙ ap (λ y. content w path y) place

-- ---- all of them

shows_area : (p : Program) (h : Header) (xs : List Happening) → LawfulRun p h xs → (m : ℕ) (a : Machine) (c : Course) (at : Spot)
    → machine_at (world_at p h xs) m ≡ Some a → Contains a.calls c → c.call.path ≡ at.path → c.call.offset ≡ at.base → ReadStands (world_at p h xs) c (area_sectors (world_at p h xs).layout)
    → (leader_of (world_at p h xs).layout c.sampled ≡ leader_there (world_at p h xs) at) × GivesBlocks (world_at p h xs) at (blocks_part (world_at p h xs).layout c.sampled)
shows_area p h xs run m a c at there has path offset r =
    let w : World = world_at p h xs in
    let g : Layout = w.layout in (
      ap (λ bs. leader_spelled g (record_in g bs))
          (gives p h xs run m a c at.path (area_sectors g) 0 at.base there has path r (some_sector (block_sectors g)) (ap (λ y. y + 0 * g.sector) offset ∙ place_of_leader at.base g.sector)),
      gives_blocks w at (blocks_part g c.sampled)
          (λ j low. behind_two g c.sampled j
          ∙ gives p h xs run m a c at.path (area_sectors g) (j + 2) (blocks_place g at.base j) there has path r (below_area j (block_sectors g) low)
          (ap (λ y. y + (j + 2) * g.sector) offset ∙ place_in_area at.base g.sector j)),
    )

shows_blocks : (p : Program) (h : Header) (xs : List Happening) → LawfulRun p h xs → (m : ℕ) (a : Machine) (c : Course) (at : Spot)
    → machine_at (world_at p h xs) m ≡ Some a → Contains a.calls c → c.call.path ≡ at.path → c.call.offset ≡ block_offset (world_at p h xs).layout at.base 1
    → ReadStands (world_at p h xs) c (block_sectors (world_at p h xs).layout) → GivesBlocks (world_at p h xs) at c.sampled
shows_blocks p h xs run m a c at there has path offset r =
    let w : World = world_at p h xs in
    let g : Layout = w.layout in
    gives_blocks w at c.sampled
    (λ j low. gives p h xs run m a c at.path (block_sectors g) j (blocks_place g at.base j) there has path r low
    (ap (λ y. y + j * g.sector) offset ∙ place_in_blocks at.base g.sector j))

pub reads_show_the_area : ReadsShowTheArea
reads_show_the_area = record { area = shows_area; blocks = shows_blocks }
