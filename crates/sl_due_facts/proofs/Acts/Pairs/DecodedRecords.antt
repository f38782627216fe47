-- What a read gives keeps the rules of its kind, whatever bytes came: the leader, and each block, of one sector or of a pair.
use Rattle.sl_area.specs.AreaSizes.{Layout}
use Rattle.sl_area.specs.Pairs.{BlocksRead, blocks_of, later_pair, pair_back, pair_front, pair_kept, pair_merged, pair_read, pairs_kept, pairs_of}
use Rattle.sl_area.specs.TornLeader.{greatest_lver, leader_made, leader_read}
use Rattle.sl_area.specs.AreaLayout.{blocks_in, leader_of, read_at, sector_of}
use Rattle.sl_area.specs.AreaRecords.{fresh_leader}
use Rattle.sl_words.proofs.Lists.{got_inside}
use Rattle.sl_sector.proofs.BlockLaws.{block_fits}
use Rattle.sl_sector.proofs.LeaderLaws.{leader_fits}
use Rattle.sl_sector.proofs.PairLaws.{pair_fits}
use Rattle.sl_sector.proofs.RuleLaws.{Hold, ensured, rules_hold}
use Rattle.sl_sector.specs.FieldBytes.{u32_at}
use Rattle.sl_sector.specs.Records.{IsBlock, IsLeader, IsPair}
use Rattle.sl_sector.specs.SectorLayouts.{as_record, block_in, block_of, block_rules, body_of, check_of, decoded, delta_of as delta_in_fields, delta_rules, fields_end, fields_of, is_first_turn, leader_in, leader_of as leader_in_fields, leader_rules, magic, padding_from, pair_in, pair_leader_in, pair_of, pair_rules, request_of, request_rules, under_rules, value_of, value_rules}
use Rattle.sl_sector.specs.declared.sector.Bad.TheVariants.{BadCheck, BadKind, BadMagic}
use Rattle.sl_sector.specs.declared.sector.Bad.{Bad}
use Rattle.sl_sector.specs.declared.sector.Block.{Block}
use Rattle.sl_sector.specs.declared.sector.Leader.{Leader}
use Rattle.sl_sector.specs.declared.sector.PairBlock.{PairBlock}
use Rattle.sl_sector.specs.declared.sector.Rec.TheVariants.{BlockIs, DeltaIs, LeaderIs, PairIs, PairLeaderIs, RequestIs, ValueIs}
use Rattle.sl_sector.specs.declared.sector.Rec.{Rec}
use Rattle.sl_words.proofs.CaseLaws.{none_some, some_value}
use Rattle.sl_words.proofs.WordLaws.{bind_ok, choose_some}
use Rattle.sl_words.specs.Bounds.{most_hosts}
use Rattle.sl_words.specs.Results.{ensure, ◌>>=◌}
use Rattle.sl_words.specs.Words.{choose, present, same_truth}
use Rattle.std.proofs.Common.{All, IfSome, ap, arith, eqb-true, get_or, refl, rules, subst, ◌∙◌}
use Rattle.std.proofs.lemmas.List.Elements.{All-contains, All-from_get_or, All-head, All-map, All-tail}
use Rattle.std.specs.List.{range_with_len}
use Rattle.std.specs.Prelude.{Bool, Err, List, None, Ok, Option, Result, Some, [], bytes_eq, drop, false, find, if◌then◌else◌, map, nat_lt, option_and_then, option_map, slice_get, take, true, unwrap_or, ℕ, ◌&&◌, ◌*◌, ◌+◌, ◌-◌, ◌==◌, ◌∷◌, ◌≡◌, ◌≤◌}

-- A block or leader that keeps its rules; nothing is said of the other kinds.
abbrev Keeps : Rec → Type 0
Keeps (BlockIs b) = IsBlock b
Keeps (LeaderIs l) = IsLeader l
Keeps (PairLeaderIs l) = IsLeader l
Keeps (PairIs p) = IsPair p
Keeps r = Unit {0}

wrapped : {A : Type 0} (wrap : A → Rec) (read : Result A Bad) (r : Rec) → as_record wrap read ≡ Ok r → (a : A) × (read ≡ Ok a) × (wrap a ≡ r)
wrapped wrap (Ok a) r h = (a, refl, cc)
wrapped wrap (Err e) r h = absurd cc

-- The rules of the kind hold, and the record is what the fields give.
kind_keeps : {A : Type 0} (wrap : A → Rec) (rules : List (ℕ × Bool)) (a : A) (r : Rec) → as_record wrap (under_rules rules a) ≡ Ok r → (Hold rules → Keeps (wrap a)) → Keeps r
kind_keeps wrap rules a r h keeps =
    let w = wrapped wrap (under_rules rules a) r h in
    let held = rules_hold rules a w.0 w.1 in
    subst Keeps (ap wrap held.1 ∙ w.2) (keeps held.0)

fields_by : (a b c d e f g : Bool) (bs : List ℕ) (r : Rec)
    → elim a as (λ x. Result Rec Bad) [
      | true ↦ as_record DeltaIs (under_rules (delta_rules bs) (delta_in_fields bs))
      | false ↦ elim b as (λ x. Result Rec Bad) [
        | true ↦ as_record LeaderIs (under_rules (leader_rules bs) (leader_in_fields bs))
        | false ↦ elim c as (λ x. Result Rec Bad) [
          | true ↦ as_record BlockIs (under_rules (block_rules bs) (block_of bs))
          | false ↦ elim d as (λ x. Result Rec Bad) [
            | true ↦ as_record RequestIs (under_rules (request_rules bs) (request_of bs))
            | false ↦ elim e as (λ x. Result Rec Bad) [
              | true ↦ as_record ValueIs (under_rules (value_rules bs) (value_of bs))
              | false ↦ elim f as (λ x. Result Rec Bad) [
                | true ↦ as_record PairIs (under_rules (pair_rules bs) (pair_of bs))
                | false ↦ elim g as (λ x. Result Rec Bad) [ true ↦ as_record PairLeaderIs (under_rules (leader_rules bs) (leader_in_fields bs)) | false ↦ Err BadKind ]
              ]
            ]
          ]
        ]
      ]
    ] ≡ Ok r → Keeps r
fields_by true b c d e f g bs r h = kind_keeps DeltaIs (delta_rules bs) (delta_in_fields bs) r h (λ x. tt)
fields_by false true c d e f g bs r h = kind_keeps LeaderIs (leader_rules bs) (leader_in_fields bs) r h (leader_fits bs)
fields_by false false true d e f g bs r h = kind_keeps BlockIs (block_rules bs) (block_of bs) r h (block_fits bs)
fields_by false false false true e f g bs r h = kind_keeps RequestIs (request_rules bs) (request_of bs) r h (λ x. tt)
fields_by false false false false true f g bs r h = kind_keeps ValueIs (value_rules bs) (value_of bs) r h (λ x. tt)
fields_by false false false false false true g bs r h = kind_keeps PairIs (pair_rules bs) (pair_of bs) r h (pair_fits bs)
fields_by false false false false false false true bs r h = kind_keeps PairLeaderIs (leader_rules bs) (leader_in_fields bs) r h (leader_fits bs)
fields_by false false false false false false false bs r h = absurd cc

fields_keep : (k : ℕ) (bs : List ℕ) (r : Rec) → fields_of k bs ≡ Ok r → Keeps r
unfolding fields_of
fields_keep k bs r h = fields_by (k == 1) (k == 2) (k == 3) (k == 4) (k == 5) (k == 6) (k == 7) bs r h

-- The record that was read is what the fields give.
decoded_fields : (digest : List ℕ → List ℕ) (bs : List ℕ) (r : Rec) → decoded digest bs ≡ Ok r → fields_of (u32_at bs 4) bs ≡ Ok r
unfolding decoded
decoded_fields digest bs r h =
    let a = ensured (bytes_eq (take 4 bs) magic) BadMagic _ r h in
    let b = bind_ok (fields_of (u32_at bs 4) bs) (λ s. padding_from (fields_end s) (body_of bs) >>= λ _. ensure (bytes_eq (check_of bs) (digest (body_of bs))) BadCheck >>= λ _. Ok s) r a.1 in
    let c = bind_ok (padding_from (fields_end b.0) (body_of bs)) (λ _. ensure (bytes_eq (check_of bs) (digest (body_of bs))) BadCheck >>= λ _. Ok b.0) r b.2 in
    let d = ensured (bytes_eq (check_of bs) (digest (body_of bs))) BadCheck (Ok b.0) r c.2 in
    b.1 ∙ d.1

decoded_keeps : (digest : List ℕ → List ℕ) (bs : List ℕ) (r : Rec) → decoded digest bs ≡ Ok r → Keeps r
decoded_keeps digest bs r h = fields_keep (u32_at bs 4) bs r (decoded_fields digest bs r h)

-- ---- at their places

chosen_keeps : (t : Bool) (b : Block) → IsBlock b → IfSome (choose t b) IsBlock
chosen_keeps true b h = h
chosen_keeps false b h = tt

block_keeps : (k : ℕ) (x : Result Rec Bad) → ((r : Rec) → x ≡ Ok r → Keeps r) → IfSome (block_in k x) IsBlock
block_keeps k (Err e) h = tt
block_keeps k (Ok (DeltaIs d)) h = tt
block_keeps k (Ok (LeaderIs l)) h = tt
block_keeps k (Ok (BlockIs b)) h = chosen_keeps (b.host == k) b (h (BlockIs b) refl)
block_keeps k (Ok (RequestIs q)) h = tt
block_keeps k (Ok (ValueIs v)) h = tt
block_keeps k (Ok (PairIs p)) h = tt
block_keeps k (Ok (PairLeaderIs l)) h = tt

leader_keeps : (x : Result Rec Bad) (l : Leader) → ((r : Rec) → x ≡ Ok r → Keeps r) → leader_in x ≡ Some l → IsLeader l
leader_keeps (Err e) l h is = absurd (none_some l is)
leader_keeps (Ok (DeltaIs d)) l h is = absurd (none_some l is)
leader_keeps (Ok (LeaderIs k)) l h is = subst IsLeader (some_value k l is) (h (LeaderIs k) refl)
leader_keeps (Ok (BlockIs b)) l h is = absurd (none_some l is)
leader_keeps (Ok (RequestIs q)) l h is = absurd (none_some l is)
leader_keeps (Ok (ValueIs v)) l h is = absurd (none_some l is)
leader_keeps (Ok (PairIs p)) l h is = absurd (none_some l is)
leader_keeps (Ok (PairLeaderIs k)) l h is = absurd (none_some l is)

pair_leader_keeps : (x : Result Rec Bad) (l : Leader) → ((r : Rec) → x ≡ Ok r → Keeps r) → pair_leader_in x ≡ Some l → IsLeader l
pair_leader_keeps (Err e) l h is = absurd (none_some l is)
pair_leader_keeps (Ok (DeltaIs d)) l h is = absurd (none_some l is)
pair_leader_keeps (Ok (LeaderIs k)) l h is = absurd (none_some l is)
pair_leader_keeps (Ok (BlockIs b)) l h is = absurd (none_some l is)
pair_leader_keeps (Ok (RequestIs q)) l h is = absurd (none_some l is)
pair_leader_keeps (Ok (ValueIs v)) l h is = absurd (none_some l is)
pair_leader_keeps (Ok (PairIs p)) l h is = absurd (none_some l is)
pair_leader_keeps (Ok (PairLeaderIs k)) l h is = subst IsLeader (some_value k l is) (h (PairLeaderIs k) refl)

spelled_keeps : (paired : Bool) (x : Result Rec Bad) (l : Leader) → ((r : Rec) → x ≡ Ok r → Keeps r) → elim paired as (λ z. Option Leader) [ false ↦ leader_in x | true ↦ pair_leader_in x ] ≡ Some l → IsLeader l
spelled_keeps false x l h is = leader_keeps x l h is
spelled_keeps true x l h is = pair_leader_keeps x l h is

-- The leader that a read of the area spells.
pub spelled_leader : (g : Layout) (bs : List ℕ) (l : Leader) → leader_of g bs ≡ Some l → IsLeader l
spelled_leader g bs l is = spelled_keeps g.paired (read_at g bs 0) l (decoded_keeps g.digest (take g.sector (drop (0 * g.sector) bs))) is

-- The blocks of one sector that a read gives.
pub blocks_read : (g : Layout) (bs : List ℕ) → All (λ o. IfSome o IsBlock) (blocks_in g bs)
blocks_read g bs =
    let P : ℕ → Type 0 = λ k. IfSome (block_in k (read_at g bs (k - 1))) IsBlock in
    let each : (k : ℕ) → P k = λ k. block_keeps k (read_at g bs (k - 1)) (decoded_keeps g.digest (take g.sector (drop ((k - 1) * g.sector) bs))) in
    All-map (λ o. IfSome o IsBlock) (λ k. block_in k (read_at g bs (k - 1))) (range_with_len 1 g.hosts)
    (All-from_get_or P (range_with_len 1 g.hosts) 0 (λ i lt. each (get_or (range_with_len 1 g.hosts) i 0)))

-- ---- pairs

-- A host's block of a pair, which keeps its rules.
abbrev pub IsPairAt : ℕ → PairBlock → Type 0
IsPairAt id p = IsPair p × (p.block.host ≡ id)

abbrev pub ArePairs : List (Option PairBlock) → Type 0
ArePairs ps = All (λ o. IfSome o IsPair) ps

at_host : (id : ℕ) (first : Bool) (p : PairBlock) → IsPair p → IfSome (choose (p.block.host == id && same_truth (is_first_turn p.turn) first) p) (IsPairAt id)
at_host id first p good = by (p.block.host == id) (same_truth (is_first_turn p.turn) first) refl where
  by : (its same : Bool) → (p.block.host == id) ≡ its → IfSome (choose (its && same) p) (IsPairAt id)
  by false same is = tt
  by true false is = tt
  by true true is = (good, eqb-true p.block.host id is)

pair_keeps : (id : ℕ) (first : Bool) (x : Result Rec Bad) → ((r : Rec) → x ≡ Ok r → Keeps r) → IfSome (pair_in id first x) (IsPairAt id)
pair_keeps id first (Err e) h = tt
pair_keeps id first (Ok (DeltaIs d)) h = tt
pair_keeps id first (Ok (LeaderIs l)) h = tt
pair_keeps id first (Ok (BlockIs b)) h = tt
pair_keeps id first (Ok (RequestIs q)) h = tt
pair_keeps id first (Ok (ValueIs v)) h = tt
pair_keeps id first (Ok (PairIs p)) h = at_host id first p (h (PairIs p) refl)
pair_keeps id first (Ok (PairLeaderIs l)) h = tt

pub later_keeps : (K : PairBlock → Type 0) (a b : Option PairBlock) → IfSome a K → IfSome b K → IfSome (later_pair a b) K
later_keeps K None b one two = two
later_keeps K (Some p) None one two = one
later_keeps K (Some p) (Some q) one two = by (nat_lt q.turn p.turn) where
  by : (c : Bool) → IfSome (if c then Some p else Some q) K
  by true = one
  by false = two

-- The block of a host's pair in one read.
pub pair_is : (g : Layout) (bs : List ℕ) (id : ℕ) → IfSome (pair_read g bs id) (IsPairAt id)
pair_is g bs id =
    later_keeps (IsPairAt id) (pair_front g bs id) (pair_back g bs id)
    (pair_keeps id true (read_at g bs (2 * (id - 1))) (decoded_keeps g.digest (sector_of g bs (2 * (id - 1)))))
    (pair_keeps id false (read_at g bs (2 * (id - 1) + 1)) (decoded_keeps g.digest (sector_of g bs (2 * (id - 1) + 1))))

pub pair_is_record : (g : Layout) (bs : List ℕ) (id : ℕ) (p : PairBlock) → pair_read g bs id ≡ Some p → IsPairAt id p
pair_is_record g bs id p is = subst (λ o. IfSome o (IsPairAt id)) is (pair_is g bs id)

some_keeps : (id : ℕ) (o : Option PairBlock) → IfSome o (IsPairAt id) → IfSome o IsPair
some_keeps id None h = tt
some_keeps id (Some p) h = h.0

-- What is made of the numbers from 1 on.
all_ranged : {A : Type 0} (P : A → Type 0) (f : ℕ → A) (n : ℕ) → ((id : ℕ) → P (f id)) → All P (map f (range_with_len 1 n))
all_ranged P f n each = All-map P f (range_with_len 1 n) (All-from_get_or (λ id. P (f id)) (range_with_len 1 n) 0 (λ i lt. each (get_or (range_with_len 1 n) i 0)))

-- What is kept of a first answer.
pub kept_are_pairs : (g : Layout) (bs : List ℕ) → ArePairs (pairs_kept g bs)
kept_are_pairs g bs = all_ranged (λ o. IfSome o IsPair) (pair_kept g bs) g.hosts each where
  each : (id : ℕ) → IfSome (pair_kept g bs id) IsPair
  each id = by (pair_back g bs id) where
    by : (o : Option PairBlock) → IfSome (elim o as (λ z. Option PairBlock) [ None ↦ None | Some p ↦ pair_read g bs id ]) IsPair
    by None = tt
    by (Some p) = some_keeps id (pair_read g bs id) (pair_is g bs id)

old_keeps : (kept : List (Option PairBlock)) → ArePairs kept → (i : ℕ) → IfSome (unwrap_or (slice_get kept i) None) IsPair
old_keeps kept all i = by (slice_get kept i) (λ z is. All-contains (λ o. IfSome o IsPair) kept z all (got_inside kept i z is)) where
  by : (o : Option (Option PairBlock)) → ((z : Option PairBlock) → o ≡ Some z → IfSome z IsPair) → IfSome (unwrap_or o None) IsPair
  by None each = tt
  by (Some z) each = each z refl

pub merged_keeps : (g : Layout) (r : BlocksRead) → ArePairs r.kept → (id : ℕ) → IfSome (pair_merged g r id) IsPair
merged_keeps g r kept id =
    later_keeps IsPair (unwrap_or (slice_get r.kept (id - 1)) None) (pair_read g r.last id) (old_keeps r.kept kept (id - 1)) (some_keeps id (pair_read g r.last id) (pair_is g r.last id))

-- What is given of all pairs, where what was kept keeps the rules.
pub pairs_are : (g : Layout) (r : BlocksRead) → ArePairs r.kept → ArePairs (pairs_of g r)
pairs_are g r kept = all_ranged (λ o. IfSome o IsPair) (pair_merged g r) g.hosts (merged_keeps g r kept)

-- So each block that a read gives is a record, of one sector or of a pair.
abbrev pub AreBlocks : List (Option Block) → Type 0
AreBlocks bs = All (λ o. IfSome o IsBlock) bs

pub blocks_are : (g : Layout) (r : BlocksRead) → ArePairs r.kept → AreBlocks (blocks_of g r)
blocks_are g r kept = by g.paired where
  block : (o : Option PairBlock) → IfSome o IsPair → IfSome (option_map (λ (p : PairBlock). p.block) o) IsBlock
  block None h = tt
  block (Some p) h = h.block

  by : (paired : Bool) → AreBlocks (elim paired as (λ z. List (Option Block)) [ false ↦ blocks_in g r.last | true ↦ map (λ p. option_map (λ q. q.block) p) (pairs_of g r) ])
  by false = blocks_read g r.last
  by true =
      All-map (λ o. IfSome o IsBlock) (λ p. option_map (λ (q : PairBlock). q.block) p) (pairs_of g r)
      (all_ranged (λ o. IfSome (option_map (λ (q : PairBlock). q.block) o) IsBlock) (pair_merged g r) g.hosts (λ id. block (pair_merged g r id) (merged_keeps g r kept id)))

-- ---- a leader that was given

found_keeps : (q : PairBlock → Bool) (ps : List (Option PairBlock)) → ArePairs ps → IfSome (find q (present ps)) IsPair
found_keeps q [] all = tt
found_keeps q (None ∷ ps) all = found_keeps q ps (All-tail (λ o. IfSome o IsPair) None ps all)
found_keeps q (Some p ∷ ps) all = by (q p) (found_keeps q ps (All-tail (λ o. IfSome o IsPair) (Some p) ps all)) where
  by : (c : Bool) → IfSome (find q (present ps)) IsPair → IfSome (if c then Some p else find q (present ps)) IsPair
  by true rest = All-head (λ o. IfSome o IsPair) (Some p) ps all
  by false rest = rest

fresh_is : (g : Layout) → (1 ≤ g.hosts) × (g.hosts ≤ most_hosts) → (p : PairBlock) → IsPair p → IsLeader (fresh_leader g p.lockspace p.resource)
fresh_is g most p good =
    record {
      hosts = most;
      lver = search rules;
      generation = search rules;
      owner = omega arith;
      lockspace = good.lockspace;
      resource = good.resource;
      same = ((λ e. e, λ e. e), (λ e. e, λ e. e));
      unused = λ e. refl;
    }

-- With as many hosts as there may be.
pub leader_is : (g : Layout) → (1 ≤ g.hosts) × (g.hosts ≤ most_hosts) → (bs : List ℕ) (r : BlocksRead) → ArePairs r.kept → (l : Leader) → leader_read g bs r ≡ Some l → IsLeader l
leader_is g most bs r kept l is = by g.paired is where
  made : (o : Option PairBlock) → IfSome o IsPair → option_and_then (λ p. choose (nat_lt 0 (greatest_lver (present (pairs_of g r)))) (fresh_leader g p.lockspace p.resource)) o ≡ Some l → IsLeader l
  made None good is = absurd (none_some l is)
  made (Some p) good is =
      subst IsLeader (choose_some (nat_lt 0 (greatest_lver (present (pairs_of g r)))) (fresh_leader g p.lockspace p.resource) l is).1 (fresh_is g most p good)

  spelled : (o : Option Leader) → leader_of g bs ≡ o → elim o as (λ z. Option Leader) [ Some x ↦ Some x | None ↦ leader_made g (present (pairs_of g r)) ] ≡ Some l → IsLeader l
  spelled (Some x) read is = spelled_leader g bs l (read ∙ is)
  spelled None read is =
      let greatest : PairBlock → Bool = λ p. p.block.lver == greatest_lver (present (pairs_of g r)) in
      made (find greatest (present (pairs_of g r))) (found_keeps greatest (pairs_of g r) (pairs_are g r kept)) is

  by : (paired : Bool)
      → elim paired as (λ z. Option Leader) [ false ↦ leader_of g bs | true ↦ elim (leader_of g bs) as (λ z. Option Leader) [ Some x ↦ Some x | None ↦ leader_made g (present (pairs_of g r)) ] ] ≡ Some l
      → IsLeader l
  by false is = spelled_leader g bs l is
  by true is = spelled (leader_of g bs) refl is
