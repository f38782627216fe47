-- What a read gives of a host names that host, with pairs or without: it was read through the test of the host's number.
use Rattle.sl_area.specs.AreaSizes.{Layout}
use Rattle.sl_area.specs.Pairs.{BlocksRead, blocks_of, pair_back, pair_front, pair_merged, pair_read, pairs_of}
use Rattle.sl_area.specs.AreaLayout.{blocks_in, read_at}
use Rattle.sl_safety.proofs.GivenReads.FirstIsUnwritten.{block_in_is}
use Rattle.sl_safety.proofs.Resources.BlockOrigins.{own_there}
use Rattle.sl_words.proofs.Options.{mapped_value}
use Rattle.sl_run_law.proofs.Place.MadeLeaders.{GivenOf, given_of, kept_of, kept_read, later_is, merged_is, ranged}
use Rattle.sl_sector.specs.SectorLayouts.{block_in, is_first_turn, pair_in}
use Rattle.sl_sector.specs.declared.sector.Bad.{Bad}
use Rattle.sl_sector.specs.declared.sector.Block.{Block}
use Rattle.sl_sector.specs.declared.sector.PairBlock.{PairBlock}
use Rattle.sl_sector.specs.declared.sector.Rec.TheVariants.{BlockIs, DeltaIs, LeaderIs, PairIs, PairLeaderIs, RequestIs, ValueIs}
use Rattle.sl_sector.specs.declared.sector.Rec.{Rec}
use Rattle.sl_trace.proofs.PlainReads.{blocks_plain}
use Rattle.sl_trace.specs.Leases.{block_of_host, blocks_given, kept_before, read_given}
use Rattle.sl_trace.specs.Traces.{Submitted}
use Rattle.sl_words.proofs.CaseLaws.{none_some, some_value}
use Rattle.sl_words.proofs.WordLaws.{and_true, choose_some}
use Rattle.sl_words.specs.Words.{same_truth}
use Rattle.std.proofs.Common.{ap, arith, inl, inr, refl, subst, sym, ◌∙◌}
use Rattle.std.proofs.lemmas.Bool.{eqb-true}
use Rattle.std.specs.Prelude.{Bool, Err, List, Ok, Option, Result, Some, [], false, map, option_map, slice_get, suc, true, zero, ℕ, ◌&&◌, ◌+◌, ◌-◌, ◌==◌, ◌∷◌, ◌≡◌, ◌≤◌, ◌⊎◌}

-- ---- in a pair

pub pair_names : (host : ℕ) (first : Bool) (r : Result Rec Bad) (p : PairBlock) → pair_in host first r ≡ Some p → p.block.host ≡ host
pair_names host first (Ok (PairIs q)) p h =
    let c = choose_some (q.block.host == host && same_truth (is_first_turn q.turn) first) q p h in
    subst (λ (z : PairBlock). z.block.host ≡ host) c.1 (eqb-true q.block.host host (and_true (q.block.host == host) (same_truth (is_first_turn q.turn) first) c.0).0)
pair_names host first (Ok (DeltaIs e)) p h = absurd (none_some p h)
pair_names host first (Ok (LeaderIs e)) p h = absurd (none_some p h)
pair_names host first (Ok (BlockIs e)) p h = absurd (none_some p h)
pair_names host first (Ok (RequestIs e)) p h = absurd (none_some p h)
pair_names host first (Ok (ValueIs e)) p h = absurd (none_some p h)
pair_names host first (Ok (PairLeaderIs e)) p h = absurd (none_some p h)
pair_names host first (Err bad) p h = absurd (none_some p h)

read_names : (g : Layout) (bs : List ℕ) (id : ℕ) (p : PairBlock) → pair_read g bs id ≡ Some p → p.block.host ≡ id
read_names g bs id p h = by (later_is (pair_front g bs id) (pair_back g bs id) p h)
  where
    by : (pair_front g bs id ≡ Some p) ⊎ (pair_back g bs id ≡ Some p) → p.block.host ≡ id
    by (inl front) = pair_names id true _ p front
    by (inr back) = pair_names id false _ p back

merged_names : (g : Layout) (m : Submitted) (ms : List Submitted) (r : BlocksRead) → GivenOf g m ms r → (id : ℕ) → 1 ≤ id → (p : PairBlock) → pair_merged g r id ≡ Some p → p.block.host ≡ id
merged_names g m ms r given id low p h = by (merged_is g r id low p h)
  where
    kept : slice_get r.kept (id - 1) ≡ Some (Some p) → (r.kept ≡ []) ⊎ (kept_before g ms ≡ Some r.kept) → p.block.host ≡ id
    kept at (inl none) = absurd (none_some (Some p) (subst (λ ys. slice_get ys (id - 1) ≡ Some (Some p)) none at))
    kept at (inr before) =
        let k = kept_of g ms r.kept before in
        read_names g k.bytes id p (kept_read g k.bytes id low p (subst (λ ys. slice_get ys (id - 1) ≡ Some (Some p)) k.same at))

    by : (slice_get r.kept (id - 1) ≡ Some (Some p)) ⊎ (pair_read g r.last id ≡ Some p) → p.block.host ≡ id
    by (inl old) = kept old given.kept
    by (inr new) = read_names g r.last id p new

-- ---- in what was given

-- An element of a list that was mapped.
pub mapped_at : {A B : Type 0} (f : A → B) (xs : List A) (i : ℕ) (y : B) → slice_get (map f xs) i ≡ Some y → (x : A) × (slice_get xs i ≡ Some x) × (f x ≡ y)
mapped_at f [] i y h = absurd (none_some y h)
mapped_at f (x ∷ xs) zero y h = (x, refl, some_value (f x) y h)
mapped_at f (x ∷ xs) (suc i) y h = mapped_at f xs i y h

one_on : (id : ℕ) → 1 ≤ id → 1 + (id - 1) ≡ id
one_on id low = omega (arith, low)

-- With pairs the blocks are those of what was merged.
pub blocks_paired : (g : Layout) → g.paired ≡ true → (r : BlocksRead) → blocks_of g r ≡ map (λ (p : Option PairBlock). option_map (λ (q : PairBlock). q.block) p) (pairs_of g r)
blocks_paired g paired r =
    ap (λ b. elim b as (λ x. List (Option Block)) [
      | false ↦ blocks_in g r.last
      | true ↦ map (λ (p : Option PairBlock). option_map (λ (q : PairBlock). q.block) p) (pairs_of g r)
    ]) paired

of_pairs : (g : Layout) (m : Submitted) (ms : List Submitted) (r : BlocksRead) → GivenOf g m ms r → (id : ℕ) → 1 ≤ id → (own : Block)
    → slice_get (map (λ (p : Option PairBlock). option_map (λ (q : PairBlock). q.block) p) (pairs_of g r)) (id - 1) ≡ Some (Some own) → own.host ≡ id
of_pairs g m ms r given id low own at =
    let x = mapped_at (λ (p : Option PairBlock). option_map (λ (q : PairBlock). q.block) p) (pairs_of g r) (id - 1) (Some own) at in
    let p = mapped_value (λ (q : PairBlock). q.block) x.0 own x.2 in
    let merged = ranged (pair_merged g r) 1 g.hosts (id - 1) x.0 x.1 in
    let is : pair_merged g r id ≡ Some p.0 = ap (pair_merged g r) (sym (one_on id low)) ∙ merged.1 ∙ p.1 in
    subst (λ (z : Block). z.host ≡ id) p.2 (merged_names g m ms r given id low p.0 is)

of_blocks : (g : Layout) (bytes : List ℕ) (id : ℕ) → 1 ≤ id → (own : Block) → slice_get (blocks_in g bytes) (id - 1) ≡ Some (Some own) → own.host ≡ id
of_blocks g bytes id low own at =
    let r = ranged (λ k. block_in k (read_at g bytes (k - 1))) 1 g.hosts (id - 1) (Some own) at in
    (block_in_is (1 + (id - 1)) _ own r.1).1 ∙ one_on id low

given_by : (g : Layout) (m : Submitted) (ms : List Submitted) (r : BlocksRead) → GivenOf g m ms r → (id : ℕ) → 1 ≤ id → (own : Block) → (b : Bool) → g.paired ≡ b
    → slice_get (blocks_of g r) (id - 1) ≡ Some (Some own) → own.host ≡ id
given_by g m ms r given id low own true paired at = of_pairs g m ms r given id low own (ap (λ l. slice_get l (id - 1)) (sym (blocks_paired g paired r)) ∙ at)
given_by g m ms r given id low own false plain at = of_blocks g r.last id low own (ap (λ l. slice_get l (id - 1)) (sym (blocks_plain g plain r)) ∙ at)

pub given_names : (g : Layout) (m : Submitted) (ms : List Submitted) (bs : List (Option Block)) → blocks_given g m ms ≡ Some bs → (id : ℕ) → 1 ≤ id → (own : Block)
    → block_of_host bs id ≡ Some own → own.host ≡ id
given_names g m ms bs given id low own block =
    let r = mapped_value (blocks_of g) (read_given g m ms) bs given in
    given_by g m ms r.0 (given_of g m ms r.0 r.1) id low own g.paired refl (ap (λ l. slice_get l (id - 1)) r.2 ∙ own_there bs id own block)
