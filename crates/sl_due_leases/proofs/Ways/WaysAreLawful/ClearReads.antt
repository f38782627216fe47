-- What a clear read of the blocks shows of other hosts: each of their blocks is whole.
use Rattle.sl_area.specs.AreaSizes.{Layout}
use Rattle.sl_area.specs.Pairs.{BlocksRead, blocks_of, pair_merged, pairs_of}
use Rattle.sl_area.specs.AreaLayout.{blocks_in}
use Rattle.sl_trace.specs.Ballots.{ballot_blocks, known_block, stop_among, stop_of, torn_host, with_own}
use Rattle.sl_trace.specs.Leases.{block_of_host, blocks_given, read_given}
use Rattle.sl_trace.specs.declared.lease.Stop.TheVariants.{BlockTorn}
use Rattle.sl_trace.specs.declared.lease.Stop.{Stop}
use Rattle.sl_sector.specs.declared.sector.Block.{Block}
use Rattle.sl_sector.specs.declared.sector.PairBlock.{PairBlock}
use Rattle.sl_trace.specs.Traces.{Submitted}
use Rattle.sl_words.proofs.CaseLaws.{none_some, some_value}
use Rattle.std.proofs.Common.{ap, arith, refl, subst, sym, tests, ◌∙◌}
use Rattle.std.proofs.lemmas.List.FromFn.{length-map-range_with_len}
use Rattle.std.proofs.lemmas.List.{length-map}
use Rattle.std.specs.Prelude.{Bool, IsSome, List, None, Option, Some, [], false, if◌then◌else◌, length, map, option_map, slice_get, suc, true, unwrap_or, zero, ℕ, ◌+◌, ◌-◌, ◌<◌, ◌==◌, ◌∷◌, ◌≡◌, ◌≤◌}

differs : (a b : ℕ) → (a ≡ b → ⊥) → (a == b) ≡ false
differs a b apart = grind (arith, tests)

untorn : (o : Option ℕ) (stop : Option Stop) → elim o as (λ x. Option Stop) [ Some host ↦ Some (BlockTorn host) | None ↦ stop ] ≡ None → o ≡ None
untorn None stop h = refl
untorn (Some host) stop h = absurd (none_some (BlockTorn host) (sym h))

none_torn : (own : Block) (blocks : List (Option Block)) → stop_of own blocks ≡ None → torn_host (with_own own 1 blocks) ≡ None
unfolding stop_of
none_torn own blocks h = untorn (torn_host (with_own own 1 blocks)) (stop_among own (ballot_blocks own blocks)) h

-- The first is whole, and so are the others.
whole_here : (o : Option Block) (host : ℕ) (rest : Option ℕ) → elim o as (λ x. Option ℕ) [ None ↦ Some host | Some b ↦ rest ] ≡ None → IsSome o × (rest ≡ None)
whole_here None host rest h = absurd (none_some host (sym h))
whole_here (Some b) host rest h = (refl, h)

whole_at : (own : Block) (first : ℕ) (blocks : List (Option Block)) → torn_host (with_own own first blocks) ≡ None → (k : ℕ) → k < length blocks → (first + k ≡ own.host → ⊥)
    → IsSome (unwrap_or (slice_get blocks k) None)
whole_at own first [] h k lt other = absurd (omega (arith, lt))
whole_at own first (b ∷ bs) h zero lt other =
    let whole = whole_here (known_block own b first) first (torn_host (with_own own (first + 1) bs)) h in
    subst (λ (t : Bool). IsSome (if t then Some (unwrap_or b own) else b)) (differs first own.host (λ e. other (omega (arith, e)))) whole.0
whole_at own first (b ∷ bs) h (suc k) lt other =
    let whole = whole_here (known_block own b first) first (torn_host (with_own own (first + 1) bs)) h in
    whole_at own (first + 1) bs whole.1 k (omega (arith, lt)) (λ e. other (omega (arith, e)))

pub no_other_torn : (own : Block) (blocks : List (Option Block)) → stop_of own blocks ≡ None → (host : ℕ) → 1 ≤ host → host ≤ length blocks → (host ≡ own.host → ⊥) → IsSome (block_of_host blocks host)
no_other_torn own blocks clear host low high other =
    whole_at own 1 blocks (none_torn own blocks clear) (host - 1) (omega (arith, low, high)) (λ e. other (omega (arith, e, low)))

-- A read of the blocks gives one of each host.
length-blocks : (g : Layout) (r : BlocksRead) → length (blocks_of g r) ≡ g.hosts
length-blocks g r = by g.paired where
  by : (q : Bool) → length (elim q as (λ z. List (Option Block)) [ false ↦ blocks_in g r.last | true ↦ map (λ p. option_map (λ (k : PairBlock). k.block) p) (pairs_of g r) ]) ≡ g.hosts
  by false = length-map-range_with_len _ 1 g.hosts
  by true = length-map (pairs_of g r) (λ p. option_map (λ (k : PairBlock). k.block) p) ∙ length-map-range_with_len (pair_merged g r) 1 g.hosts

pub given_long : (g : Layout) (m : Submitted) (ms : List Submitted) (blocks : List (Option Block)) → blocks_given g m ms ≡ Some blocks → length blocks ≡ g.hosts
given_long g m ms blocks is = by (read_given g m ms) is where
  by : (o : Option BlocksRead) → option_map (blocks_of g) o ≡ Some blocks → length blocks ≡ g.hosts
  by None at = absurd (none_some blocks at)
  by (Some r) at = ap (λ xs. length xs) (sym (some_value (blocks_of g r) blocks at)) ∙ length-blocks g r
