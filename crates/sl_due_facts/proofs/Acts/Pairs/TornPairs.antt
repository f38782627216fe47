-- Which pairs a read shows to be whole or torn: where each second sector is whole the read is made once; a block is torn only where the
-- last answer has neither sector and nothing was kept of the first; a leader only where none is spelled and every block is of instance 0.
use Rattle.sl_area.specs.AreaSizes.{Layout}
use Rattle.sl_area.specs.Pairs.{BlocksRead, blocks_of, later_pair, needs_again, pair_back, pair_merged, pair_read, pairs_of}
use Rattle.sl_area.specs.TornLeader.{greatest_lver, leader_made, leader_read}
use Rattle.sl_area.specs.AreaLayout.{blocks_in, leader_of}
use Rattle.sl_area.specs.AreaRecords.{fresh_leader}
use Rattle.sl_sector.specs.declared.sector.Block.{Block}
use Rattle.sl_sector.specs.declared.sector.Leader.{Leader}
use Rattle.sl_sector.specs.declared.sector.PairBlock.{PairBlock}
use Rattle.sl_words.proofs.Lists.{any_found, contains_first, contains_more, find_fails}
use Rattle.sl_words.proofs.Numbers.{number_itself}
use Rattle.sl_words.proofs.Options.{mapped_value, none_is}
use Rattle.sl_words.proofs.Places.{FoundAt, position_found}
use Rattle.sl_words.proofs.CaseLaws.{is_false, none_some, not_both, true_is_false}
use Rattle.sl_words.proofs.WordLaws.{and_true}
use Rattle.sl_words.specs.Words.{choose, present}
use Rattle.std.proofs.Common.{ap, arith, get_or, inl, inr, refl, subst, sym, ◌∙◌}
use Rattle.std.proofs.lemmas.Bool.{cases_lt, lt-ltb}
use Rattle.std.proofs.lemmas.List.Elements.{All-contains, All-from_get_or}
use Rattle.std.proofs.lemmas.List.FromFn.{get_or-range_with_len, length-range_with_len}
use Rattle.std.proofs.lemmas.Option.{get_or_from_slice_get, slice_get-map, slice_get_within}
use Rattle.std.specs.List.{list_any, range_with_len}
use Rattle.std.specs.Prelude.{Bool, Contains, List, None, Option, Some, [], false, find, if◌then◌else◌, is_none, is_some, length, map, max, nat_lt, option_and_then, option_map, position, slice_get, true, unwrap_or, ℕ, ◌+◌, ◌-◌, ◌<◌, ◌==◌, ◌∷◌, ◌≡◌, ◌≤◌, ◌⊎◌}

-- Some host's second sector is torn where the read is made once more.
pub record TornBack (g : Layout) (bytes : List ℕ) : Type 0 where
  pub id : ℕ
  pub host : (1 ≤ id) × (id ≤ g.hosts)
  pub torn : pair_back g bytes id ≡ None

-- ---- hosts

abbrev IsHost : ℕ → ℕ → Type 0
IsHost n id = (1 ≤ id) × (id ≤ n)

next_is_host : (n i : ℕ) → i < n → IsHost n (1 + i)
next_is_host n i low = (omega arith, omega (arith, low))

in_range : (n id : ℕ) → Contains (range_with_len 1 n) id → IsHost n id
in_range n id there = All-contains (IsHost n) (range_with_len 1 n) id (All-from_get_or (IsHost n) (range_with_len 1 n) 0 each) there where
  each : (i : ℕ) → i < length (range_with_len 1 n) → IsHost n (get_or (range_with_len 1 n) i 0)
  each i low = let below : i < n = subst (λ k. i < k) (length-range_with_len 1 n) low in subst (IsHost n) (sym (get_or-range_with_len 1 n i 0 below)) (next_is_host n i below)

-- What is made of the number at place i of those from 1 on.
ranged : {A : Type 0} (f : ℕ → A) (n i : ℕ) (y : A) → slice_get (map f (range_with_len 1 n)) i ≡ Some y → f (i + 1) ≡ y
ranged f n i y is =
    let k = mapped_value f (slice_get (range_with_len 1 n) i) y (sym (slice_get-map f (range_with_len 1 n) i) ∙ is) in
    let low : i < n = subst (λ m. i < m) (length-range_with_len 1 n) (slice_get_within (range_with_len 1 n) i k.0 k.1) in
    let number : i + 1 ≡ k.0 = turned i ∙ (sym (get_or-range_with_len 1 n i 0 low) ∙ get_or_from_slice_get (range_with_len 1 n) i k.0 0 k.1) in
    ap f number ∙ k.2
  where
    turned : (m : ℕ) → m + 1 ≡ 1 + m
    turned m = omega arith

-- ---- pairs that are whole

pub torn_there : (g : Layout) (bytes : List ℕ) → needs_again g bytes ≡ true → TornBack g bytes
torn_there g bytes is =
    let any : list_any (λ id. is_none (pair_back g bytes id)) (range_with_len 1 g.hosts) ≡ true = (and_true g.paired (list_any (λ id. is_none (pair_back g bytes id)) (range_with_len 1 g.hosts)) is).1 in
    let found = any_found (λ id. is_none (pair_back g bytes id)) (range_with_len 1 g.hosts) any in
    record { id = found.0; host = in_range g.hosts found.0 found.1; torn = none_is (pair_back g bytes found.0) found.2 }

-- Where each is whole the read is made once.
pub whole_is_once : (g : Layout) (bytes : List ℕ) → ((id : ℕ) → 1 ≤ id → id ≤ g.hosts → is_some (pair_back g bytes id) ≡ true) → needs_again g bytes ≡ false
whole_is_once g bytes whole = is_false (needs_again g bytes) (λ torn. let t : TornBack g bytes = torn_there g bytes torn in not_both true refl (sym (whole t.id t.host.0 t.host.1) ∙ ap (λ o. is_some o) t.torn))

-- A block that is given of none.
later_none : (a b : Option PairBlock) → later_pair a b ≡ None → (a ≡ None) × (b ≡ None)
later_none None b h = (refl, h)
later_none (Some p) None h = absurd (none_some p (sym h))
later_none (Some p) (Some q) h = by (nat_lt q.turn p.turn) h where
  by : (c : Bool) → (if c then Some p else Some q) ≡ None → (Some p ≡ None) × (Some q ≡ None)
  by true is = absurd (none_some p (sym is))
  by false is = absurd (none_some q (sym is))

pub record TornPair (g : Layout) (r : BlocksRead) (id : ℕ) : Type 0 where
  pub merged : pair_merged g r id ≡ None
  pub kept : unwrap_or (slice_get r.kept (id - 1)) None ≡ None
  pub last : pair_read g r.last id ≡ None

pub torn_block_is : (g : Layout) (r : BlocksRead) (i : ℕ) → g.paired ≡ true → position is_none (blocks_of g r) ≡ Some i → TornPair g r (i + 1)
torn_block_is g r i paired is =
    let f : FoundAt is_none (map (λ p. option_map (λ (q : PairBlock). q.block) p) (pairs_of g r)) i = position_found is_none (map (λ p. option_map (λ (q : PairBlock). q.block) p) (pairs_of g r)) i (sym (ap (λ b. position is_none (blocks_by b)) paired) ∙ is) in
    let pair = mapped_value (λ p. option_map (λ (q : PairBlock). q.block) p) (slice_get (pairs_of g r) i) f.item (sym (slice_get-map (λ p. option_map (λ (q : PairBlock). q.block) p) (pairs_of g r) i) ∙ f.there) in
    let merged : pair_merged g r (i + 1) ≡ None = ranged (pair_merged g r) g.hosts i pair.0 pair.1 ∙ no_block pair.0 (pair.2 ∙ none_is f.item f.passes) in
    let both = later_none (unwrap_or (slice_get r.kept (i + 1 - 1)) None) (pair_read g r.last (i + 1)) merged in
    record { merged = merged; kept = both.0; last = both.1 }
  where
    blocks_by : Bool → List (Option Block)
    blocks_by b = elim b as (λ z. List (Option Block)) [ false ↦ blocks_in g r.last | true ↦ map (λ p. option_map (λ q. q.block) p) (pairs_of g r) ]

    no_block : (o : Option PairBlock) → option_map (λ (q : PairBlock). q.block) o ≡ None → o ≡ None
    no_block None h = refl
    no_block (Some p) h = absurd (none_some p.block (sym h))

-- Some block has the greatest instance, where that is above 0.
attained : (ps : List PairBlock) → 0 < greatest_lver ps → (p : PairBlock) × Contains ps p × (p.block.lver ≡ greatest_lver ps)
attained [] some = absurd (omega (arith, some))
attained (p ∷ ps) some = by (cases_lt p.block.lver (greatest_lver ps)) (attained ps) where
  greater : (a b : ℕ) → a < b → b ≡ max a b
  greater a b less = omega (arith, less)

  least : (a b : ℕ) → b ≤ a → a ≡ max a b
  least a b most = omega (arith, most)

  above : (a b : ℕ) → a < b → 0 < b
  above a b less = omega (arith, less)

  by : (p.block.lver < greatest_lver ps) ⊎ (greatest_lver ps ≤ p.block.lver) → (0 < greatest_lver ps → (q : PairBlock) × Contains ps q × (q.block.lver ≡ greatest_lver ps))
      → (q : PairBlock) × Contains (p ∷ ps) q × (q.block.lver ≡ greatest_lver (p ∷ ps))
  by (inl less) rest =
      let q = rest (above p.block.lver (greatest_lver ps) less) in (q.0, contains_more p ps q.0 q.1, q.2 ∙ greater p.block.lver (greatest_lver ps) less)
  by (inr most) rest = (p, contains_first p ps, least p.block.lver (greatest_lver ps) most)

none_made : (g : Layout) (ps : List PairBlock) → leader_made g ps ≡ None → greatest_lver ps ≡ 0
none_made g ps none = by (find top ps) refl none (cases_lt 0 (greatest_lver ps)) where
  top : PairBlock → Bool
  top p = p.block.lver == greatest_lver ps

  least : (n : ℕ) → n ≤ 0 → n ≡ 0
  least n low = omega (arith, low)

  by : (o : Option PairBlock) → find top ps ≡ o → option_and_then (λ p. choose (nat_lt 0 (greatest_lver ps)) (fresh_leader g p.lockspace p.resource)) o ≡ None
      → (0 < greatest_lver ps) ⊎ (greatest_lver ps ≤ 0) → greatest_lver ps ≡ 0
  by o found made (inr low) = least (greatest_lver ps) low
  by None found made (inl some) =
      let p = attained ps some in absurd (not_both (top p.0) (subst (λ n. (p.0.block.lver == n) ≡ true) p.2 (number_itself p.0.block.lver)) (find_fails top ps p.0 found p.1))
  by (Some p) found made (inl some) =
      absurd (none_some (fresh_leader g p.lockspace p.resource) (sym made ∙ ap (λ b. choose b (fresh_leader g p.lockspace p.resource)) (lt-ltb 0 (greatest_lver ps) some)))

pub torn_leader_is : (g : Layout) (bytes : List ℕ) (r : BlocksRead) → leader_read g bytes r ≡ None → (leader_of g bytes ≡ None) × (g.paired ≡ true → greatest_lver (present (pairs_of g r)) ≡ 0)
torn_leader_is g bytes r is = by g.paired refl is where
  spelled : (o : Option Leader) → leader_of g bytes ≡ o → elim o as (λ z. Option Leader) [ Some l ↦ Some l | None ↦ leader_made g (present (pairs_of g r)) ] ≡ None
      → (leader_of g bytes ≡ None) × (g.paired ≡ true → greatest_lver (present (pairs_of g r)) ≡ 0)
  spelled (Some l) read h = absurd (none_some l (sym h))
  spelled None read h = (read, λ paired. none_made g (present (pairs_of g r)) h)

  by : (paired : Bool) → g.paired ≡ paired
      → elim paired as (λ z. Option Leader) [ false ↦ leader_of g bytes | true ↦ elim (leader_of g bytes) as (λ z. Option Leader) [ Some l ↦ Some l | None ↦ leader_made g (present (pairs_of g r)) ] ] ≡ None
      → (leader_of g bytes ≡ None) × (g.paired ≡ true → greatest_lver (present (pairs_of g r)) ≡ 0)
  by false plain h = (h, λ paired. absurd (true_is_false (sym paired ∙ plain)))
  by true paired h = spelled (leader_of g bytes) refl h
