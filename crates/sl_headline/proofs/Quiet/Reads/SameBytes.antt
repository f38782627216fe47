-- What stands of an area's blocks and its leader is by the bytes at their places alone.
use Rattle.sl_area.specs.AreaSizes.{Layout, record_in}
use Rattle.sl_area.specs.AreaLayout.{block_offset, leader_offset, leader_spelled, pair_offset}
use Rattle.sl_area.specs.Pairs.{later_pair}
use Rattle.sl_safety.proofs.GivenReads.FirstIsUnwritten.{block_in_is}
use Rattle.sl_safety.proofs.GivenReads.GivenNames.{pair_names}
use Rattle.sl_words.proofs.Options.{mapped_value}
use Rattle.sl_run.specs.Quiet.{leader_there}
use Rattle.sl_run.specs.Safety.{block_there, pair_there}
use Rattle.sl_run.specs.Worlds.{World, content}
use Rattle.sl_run_law.proofs.Place.MadeLeaders.{later_is}
use Rattle.sl_sector.specs.SectorLayouts.{block_in, pair_in}
use Rattle.sl_sector.specs.declared.sector.Block.{Block}
use Rattle.sl_sector.specs.declared.sector.PairBlock.{PairBlock}
use Rattle.sl_trace.specs.declared.effects.Spot.{Spot}
use Rattle.std.proofs.Common.{ap, ap₂, inl, inr, refl, sym, ◌∙◌}
use Rattle.std.specs.Prelude.{Bool, Option, Some, false, option_map, true, ℕ, ◌≡◌, ◌⊎◌}

-- The two worlds have the same bytes at this place.
abbrev pub SameBytes : World → World → Spot → ℕ → Type 0
SameBytes v w at o = content v at.path o ≡ content w at.path o

pub same_pair : (v w : World) (at : Spot) (k : ℕ) (first : Bool) → v.layout ≡ w.layout → SameBytes v w at (pair_offset w.layout at.base k first) → pair_there v at k first ≡ pair_there w at k first
same_pair v w at k first layout same =
    ap (λ g. pair_in k first (record_in g (content v at.path (pair_offset g at.base k first)))) layout ∙ ap (λ bs. pair_in k first (record_in w.layout bs)) same

pub same_leader : (v w : World) (at : Spot) → v.layout ≡ w.layout → SameBytes v w at (leader_offset at.base) → leader_there v at ≡ leader_there w at
same_leader v w at layout same =
    ap (λ g. leader_spelled g (record_in g (content v at.path (leader_offset at.base)))) layout ∙ ap (λ bs. leader_spelled w.layout (record_in w.layout bs)) same

-- A host's block, of either kind.
pub same_block : (v w : World) (at : Spot) (k : ℕ) → v.layout ≡ w.layout → (w.layout.paired ≡ false → SameBytes v w at (block_offset w.layout at.base k))
    → (w.layout.paired ≡ true → (first : Bool) → SameBytes v w at (pair_offset w.layout at.base k first)) → block_there v at k ≡ block_there w at k
same_block v w at k layout single double = ap (λ g. of_kind v g g.paired) layout ∙ by w.layout.paired refl where
  of_kind : World → Layout → Bool → Option Block
  of_kind u g b = elim b [
    | false ↦ block_in k (record_in g (content u at.path (block_offset g at.base k)))
    | true ↦ option_map (λ (p : PairBlock). p.block)
        (later_pair (pair_in k true (record_in g (content u at.path (pair_offset g at.base k true)))) (pair_in k false (record_in g (content u at.path (pair_offset g at.base k false)))))
  ]

  by : (b : Bool) → w.layout.paired ≡ b → of_kind v w.layout b ≡ of_kind w w.layout b
  by false plain = ap (λ bs. block_in k (record_in w.layout bs)) (single plain)
  by true paired =
      ap₂ (λ x y. option_map (λ (p : PairBlock). p.block) (later_pair (pair_in k true (record_in w.layout x)) (pair_in k false (record_in w.layout y)))) (double paired true) (double paired false)

-- It names its host.
pub stands_for : (w : World) (at : Spot) (k : ℕ) (b : Block) → block_there w at k ≡ Some b → b.host ≡ k
stands_for w at k b is = by w.layout.paired is where
  single : Option Block
  single = block_in k (record_in w.layout (content w at.path (block_offset w.layout at.base k)))

  pair : Option PairBlock
  pair = later_pair (pair_there w at k true) (pair_there w at k false)

  of_pair : (p : PairBlock) → (pair_there w at k true ≡ Some p) ⊎ (pair_there w at k false ≡ Some p) → p.block.host ≡ k
  of_pair p (inl one) = pair_names k true (record_in w.layout (content w at.path (pair_offset w.layout at.base k true))) p one
  of_pair p (inr two) = pair_names k false (record_in w.layout (content w at.path (pair_offset w.layout at.base k false))) p two

  by : (paired : Bool) → elim paired as (λ z. Option Block) [ false ↦ single | true ↦ option_map (λ (p : PairBlock). p.block) pair ] ≡ Some b → b.host ≡ k
  by false one = (block_in_is k (record_in w.layout (content w at.path (block_offset w.layout at.base k))) b one).1
  by true one =
      let p = mapped_value (λ (p : PairBlock). p.block) pair b one in
      ap (λ (x : Block). x.host) (sym p.2) ∙ of_pair p.0 (later_is (pair_there w at k true) (pair_there w at k false) p.0 p.1)
