-- Where a read gives no block of a host with pairs, it is a second one, in whose answer both sectors of the host are torn.
use Rattle.sl_area.specs.AreaSizes.{Layout}
use Rattle.sl_area.specs.Pairs.{BlocksRead, blocks_of, later_pair, needs_again, pair_back, pair_front, pair_merged, pair_read, pairs_of}
use Rattle.sl_area.specs.AreaLayout.{blocks_in}
use Rattle.sl_safety.proofs.Resources.GivenBlocks.{Alone, GivenWays, Second, given_ways}
use Rattle.sl_sector.specs.declared.sector.Block.{Block}
use Rattle.sl_sector.specs.declared.sector.PairBlock.{PairBlock}
use Rattle.sl_trace.specs.Ballots.{ballot_blocks, block_ahead, block_rival, known_block, stop_among, stop_of, torn_host, with_own}
use Rattle.sl_trace.specs.Leases.{blocks_bytes, blocks_given, is_again, read_given}
use Rattle.sl_trace.specs.Traces.{Submitted}
use Rattle.std.proofs.Common.{ap, arith, refl, subst, sym, ◌∙◌}
use Rattle.std.specs.Prelude.{Bool, Contains, List, None, Option, Some, false, is_none, map, nat_lt, option_map, position, slice_get, suc, true, unwrap_or, [], ℕ, if◌then◌else◌, ◌+◌, ◌-◌, ◌<◌, ◌==◌, ◌∷◌, ◌≡◌}
use Rattle.sl_words.proofs.CaseLaws.{false_is_true, none_some, some_value, true_is_false}
use Rattle.sl_words.proofs.Options.{mapped_value}
use Rattle.std.specs.List.{list_any, range_with_len}
use Rattle.std.proofs.lemmas.Option.{get_or_from_slice_get, slice_get-map, slice_get_within}
use Rattle.std.proofs.lemmas.List.FromFn.{get_or-range_with_len, length-range_with_len}
use Rattle.sl_words.proofs.Lists.{any_of, got_inside}
use Rattle.std.proofs.lemmas.Bool.{and_from}
use Rattle.sl_trace.specs.declared.lease.Stop.{Stop}
use Rattle.sl_trace.specs.declared.lease.Stop.TheVariants.{BlockAhead, BlockRival, BlockTorn}
use Rattle.sl_words.proofs.Places.{position_found}

-- ---- one pair

neither : (a b : Option PairBlock) → later_pair a b ≡ None → (a ≡ None) × (b ≡ None)
neither None q h = (refl, h)
neither (Some p) None h = absurd (none_some p (sym h))
neither (Some p) (Some q) h = by (nat_lt q.turn p.turn) h
  where
    by : (t : Bool) → (if t then Some p else Some q) ≡ None → (Some p ≡ None) × (Some q ≡ None)
    by true is = absurd (none_some p (sym is))
    by false is = absurd (none_some q (sym is))

-- ---- the blocks of pairs

with_pairs : (g : Layout) → g.paired ≡ true → (r : BlocksRead) → blocks_of g r ≡ map (λ p. option_map (λ q. q.block) p) (pairs_of g r)
with_pairs g paired r =
    ap (λ b. elim b as (λ z. List (Option Block)) [ false ↦ blocks_in g r.last | true ↦ map (λ (p : Option PairBlock). option_map (λ (q : PairBlock). q.block) p) (pairs_of g r) ]) paired

no_block : (o : Option PairBlock) → option_map (λ (q : PairBlock). q.block) o ≡ None → o ≡ None
no_block None h = refl
no_block (Some q) h = absurd (none_some q.block (sym h))

record NoneAt (g : Layout) (r : BlocksRead) (i : ℕ) : Type 0 where
  inside : Contains (range_with_len 1 g.hosts) (i + 1)
  none : pair_merged g r (i + 1) ≡ None

next_of : (i : ℕ) → 1 + i ≡ i + 1
next_of i = omega arith

none_at : (g : Layout) → g.paired ≡ true → (r : BlocksRead) (i : ℕ) → slice_get (blocks_of g r) i ≡ Some None → NoneAt g r i
none_at g paired r i at =
    let hosts : List ℕ = range_with_len 1 g.hosts in
    let in_pairs : option_map (λ (p : Option PairBlock). option_map (λ (q : PairBlock). q.block) p) (slice_get (pairs_of g r) i) ≡ Some None =
    sym (slice_get-map (λ (p : Option PairBlock). option_map (λ (q : PairBlock). q.block) p) (pairs_of g r) i) ∙ ap (λ bs. slice_get bs i) (sym (with_pairs g paired r)) ∙ at in
    let o = mapped_value (λ (p : Option PairBlock). option_map (λ (q : PairBlock). q.block) p) (slice_get (pairs_of g r) i) None in_pairs in
    let in_hosts : option_map (pair_merged g r) (slice_get hosts i) ≡ Some o.0 = sym (slice_get-map (pair_merged g r) hosts i) ∙ o.1 in
    let k = mapped_value (pair_merged g r) (slice_get hosts i) o.0 in_hosts in
    let below : i < g.hosts = subst (λ n. i < n) (length-range_with_len 1 g.hosts) (slice_get_within hosts i k.0 k.1) in
    let same : k.0 ≡ i + 1 = sym (get_or_from_slice_get hosts i k.0 0 k.1) ∙ get_or-range_with_len 1 g.hosts i 0 below ∙ next_of i in
    record {
      inside = subst (λ n. Contains hosts n) same (got_inside hosts i k.0 k.1);
      none = ap (pair_merged g r) (sym same) ∙ k.2 ∙ no_block o.0 o.2;
    }

-- ---- the read

pub record TornIn (g : Layout) (c : Submitted) (host : ℕ) : Type 0 where
  pub again : is_again c ≡ true
  pub bytes : List ℕ
  pub gives : blocks_bytes g c ≡ Some bytes
  pub torn : (pair_front g bytes host ≡ None) × (pair_back g bytes host ≡ None)

torn_by : (g : Layout) → g.paired ≡ true → (c : Submitted) (before : List Submitted) (r : BlocksRead) (i : ℕ) → NoneAt g r i → GivenWays g c before r → TornIn g c (i + 1)
torn_by g paired c before r i n (Second again bs told pairs kept is) =
    let both = neither (unwrap_or (slice_get pairs (i + 1 - 1)) None) (pair_read g bs (i + 1)) (ap (λ x. pair_merged g x (i + 1)) (sym is) ∙ n.none) in
    record { again = again; bytes = bs; gives = told; torn = neither (pair_front g bs (i + 1)) (pair_back g bs (i + 1)) both.1 }
torn_by g paired c before r i n (Alone once bs told enough is) =
    let both = neither (pair_front g bs (i + 1)) (pair_back g bs (i + 1)) (ap (λ x. pair_merged g x (i + 1)) (sym is) ∙ n.none) in
    let needs : needs_again g bs ≡ true =
    and_from g.paired (list_any (λ id. is_none (pair_back g bs id)) (range_with_len 1 g.hosts)) paired
    (any_of (λ id. is_none (pair_back g bs id)) (range_with_len 1 g.hosts) (i + 1) (ap (λ o. is_none o) both.1) n.inside) in
    absurd (true_is_false (sym needs ∙ enough))

pub torn_in : (g : Layout) → g.paired ≡ true → (c : Submitted) (before : List Submitted) (bs : List (Option Block)) → blocks_given g c before ≡ Some bs → (i : ℕ)
    → slice_get bs i ≡ Some None → TornIn g c (i + 1)
torn_in g paired c before bs given i at =
    let r = mapped_value (blocks_of g) (read_given g c before) bs given in
    torn_by g paired c before r.0 i (none_at g paired r.0 i (ap (λ xs. slice_get xs i) r.2 ∙ at)) (given_ways g c before r.0 r.1)

-- ---- what names it

-- The first that is nothing.
nothing_is : {A : Type 0} (o : Option A) → is_none o ≡ true → o ≡ None
nothing_is None h = refl
nothing_is (Some a) h = absurd (false_is_true h)

pub first_none : (xs : List (Option Block)) (i : ℕ) → position is_none xs ≡ Some i → slice_get xs i ≡ Some None
first_none xs i h = let f = position_found is_none xs i h in f.there ∙ ap (λ o. Some o) (nothing_is f.item f.passes)

known_none : (own : Block) (b : Option Block) (host : ℕ) (same : Bool) → (if same then Some (unwrap_or b own) else b) ≡ None → b ≡ None
known_none own b host true h = absurd (none_some (unwrap_or b own) (sym h))
known_none own b host false h = h

record TornAt (bs : List (Option Block)) (from host : ℕ) : Type 0 where
  place : ℕ
  number : host ≡ from + place
  none : slice_get bs place ≡ Some None

no_more : (a b c : ℕ) → c ≡ a + 1 + b → c ≡ a + suc b
no_more a b c h = omega (arith, h)

here : (a b : ℕ) → a ≡ b → b ≡ a + 0
here a b h = omega (arith, h)

torn_at : (own : Block) (from : ℕ) (bs : List (Option Block)) (host : ℕ) → torn_host (with_own own from bs) ≡ Some host → TornAt bs from host
torn_at own from [] host h = absurd (none_some host h)
torn_at own from (b ∷ bs) host h = by (known_block own b from) refl h (λ found. torn_at own (from + 1) bs host found)
  where
    by : (o : Option Block) → known_block own b from ≡ o → elim o as (λ z. Option ℕ) [ None ↦ Some from | Some x ↦ torn_host (with_own own (from + 1) bs) ] ≡ Some host
        → (torn_host (with_own own (from + 1) bs) ≡ Some host → TornAt bs (from + 1) host) → TornAt (b ∷ bs) from host
    by None is found later =
        record { place = 0; number = here from host (some_value from host found); none = ap (λ x. Some x) (known_none own b from (from == own.host) is) }
    by (Some x) is found later = let r = later found in record { place = suc r.place; number = no_more from r.place host r.number; none = r.none }

only_torn : (own : Block) (bs : List Block) (host : ℕ) → stop_among own bs ≡ Some (BlockTorn host) → ⊥
only_torn own bs host h = by (block_ahead own bs) h
  where
    rival : (o : Option Block) → option_map (λ (b : Block). BlockRival b.host b.mbal) o ≡ Some (BlockTorn host) → ⊥
    rival None is = none_some (BlockTorn host) is
    rival (Some b) is = let e = some_value (BlockRival b.host b.mbal) (BlockTorn host) is in cc

    by : (o : Option Block) → elim o as (λ z. Option Stop) [ Some b ↦ Some (BlockAhead b.host b.lver) | None ↦ option_map (λ (b : Block). BlockRival b.host b.mbal) (block_rival own bs) ]
        ≡ Some (BlockTorn host) → ⊥
    by (Some b) is = let e = some_value (BlockAhead b.host b.lver) (BlockTorn host) is in cc
    by None is = rival (block_rival own bs) is

stop_by : (own : Block) (bs : List Block) (o : Option ℕ) (host : ℕ) → elim o as (λ z. Option Stop) [ Some k ↦ Some (BlockTorn k) | None ↦ stop_among own bs ] ≡ Some (BlockTorn host)
    → o ≡ Some host
stop_by own bs None host h = absurd (only_torn own bs host h)
stop_by own bs (Some k) host h = let e = some_value (BlockTorn k) (BlockTorn host) h in cc

stopped : (own : Block) (bs : List (Option Block)) (host : ℕ) → stop_of own bs ≡ Some (BlockTorn host) → torn_host (with_own own 1 bs) ≡ Some host
unfolding stop_of
stopped own bs host h = stop_by own (ballot_blocks own bs) (torn_host (with_own own 1 bs)) host h

after_one : (host i : ℕ) → host ≡ 1 + i → host ≡ i + 1
after_one host i h = omega (arith, h)

pub stopped_at : (own : Block) (bs : List (Option Block)) (host : ℕ) → stop_of own bs ≡ Some (BlockTorn host) → (i : ℕ) × (host ≡ i + 1) × (slice_get bs i ≡ Some None)
stopped_at own bs host h = let t = torn_at own 1 bs host (stopped own bs host h) in (t.place, after_one host t.place t.number, t.none)
