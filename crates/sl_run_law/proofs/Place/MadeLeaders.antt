-- With pairs a leader that a lease was given was read, or was made for a torn one; then it has the names of a pair's block that was read.
use Rattle.sl_area.specs.AreaSizes.{Layout, record_in}
use Rattle.sl_area.specs.Pairs.{BlocksRead, later_pair, needs_again, pair_back, pair_front, pair_kept, pair_merged, pair_read, pairs_kept, pairs_of, read_once}
use Rattle.sl_area.specs.TornLeader.{greatest_lver, leader_made, leader_read}
use Rattle.sl_area.specs.AreaLayout.{block_sectors, leader_of, sector_of}
use Rattle.sl_area.specs.AreaRecords.{fresh_leader}
use Rattle.sl_words.proofs.Lists.{contains_cases, contains_first, contains_more, contains_none, find_inside, in_map}
use Rattle.sl_words.proofs.Numbers.{both_next, one_further, plus_zero, zero_less}
use Rattle.sl_run_law.proofs.Place.FoundInLists.{given_by}
use Rattle.sl_sector.specs.SectorLayouts.{is_first_turn, pair_in}
use Rattle.sl_sector.specs.declared.sector.Bad.{Bad}
use Rattle.sl_sector.specs.declared.sector.Leader.{Leader}
use Rattle.sl_sector.specs.declared.sector.PairBlock.{PairBlock}
use Rattle.sl_sector.specs.declared.sector.Rec.TheVariants.{BlockIs, DeltaIs, LeaderIs, PairIs, PairLeaderIs, RequestIs, ValueIs}
use Rattle.sl_sector.specs.declared.sector.Rec.{Rec}
use Rattle.sl_trace.specs.Leases.{blocks_bytes, given_with, is_again, is_area_read, kept_before, leader_given, leaders_given, read_given}
use Rattle.sl_trace.specs.Traces.{Submitted, gave}
use Rattle.sl_words.proofs.CaseLaws.{none_some, some_value}
use Rattle.sl_words.proofs.WordLaws.{choose_some}
use Rattle.sl_words.specs.Words.{choose, present, same_truth}
use Rattle.std.proofs.Common.{ap, arith, inl, inr, refl, subst, sym, ◌∙◌}
use Rattle.std.specs.List.{range_with_len}
use Rattle.std.specs.Prelude.{Bool, Contains, Err, List, None, Ok, Option, Result, Some, [], false, find, if◌then◌else◌, map, nat_lt, not, option_and_then, option_map, slice_get, suc, true, unwrap_or, zero, ℕ, ◌&&◌, ◌*◌, ◌+◌, ◌-◌, ◌<◌, ◌==◌, ◌∷◌, ◌≡◌, ◌≤◌, ◌⊎◌}

-- ---- lists of numbers

-- Element j of what f gives of a, a + 1, and so on.
pub ranged : {A : Type 0} (f : ℕ → A) (a n j : ℕ) (y : A) → slice_get (map f (range_with_len a n)) j ≡ Some y → (j < n) × (f (a + j) ≡ y)
ranged f a zero j y h = absurd (none_some y h)
ranged f a (suc n) zero y h = (zero_less n, ap f (sym (plus_zero a)) ∙ some_value (f a) y h)
ranged f a (suc n) (suc j) y h = let r = ranged f (a + 1) n j y h in (both_next j n r.0, ap f (sym (one_further a j)) ∙ r.1)

within_next : (a n k : ℕ) → (a + 1 ≤ k) × (k < a + 1 + n) → (a ≤ k) × (k < a + suc n)
within_next a n k h = (omega (arith, h.0), omega (arith, h.1))

within_first : (a n k : ℕ) → a ≡ k → (a ≤ k) × (k < a + suc n)
within_first a n k e = (omega (arith, e), omega (arith, e))

pub in_range : (a n k : ℕ) → Contains (range_with_len a n) k → (a ≤ k) × (k < a + n)
in_range a zero k there = absurd (contains_none k there)
in_range a (suc n) k there = by (λ more. in_range (a + 1) n k more) (contains_cases a (range_with_len (a + 1) n) k there)
  where
    by : (Contains (range_with_len (a + 1) n) k → (a + 1 ≤ k) × (k < a + 1 + n)) → (a ≡ k) ⊎ Contains (range_with_len (a + 1) n) k → (a ≤ k) × (k < a + suc n)
    by rest (inl here) = within_first a n k here
    by rest (inr more) = within_next a n k (rest more)

-- ---- a pair's block in bytes that were read

pub pair_in_is : (host : ℕ) (first : Bool) (r : Result Rec Bad) (p : PairBlock) → pair_in host first r ≡ Some p → r ≡ Ok (PairIs p)
pair_in_is host first (Ok (PairIs q)) p h = ap (λ x. Ok (PairIs x)) (choose_some (q.block.host == host && same_truth (is_first_turn q.turn) first) q p h).1
pair_in_is host first (Ok (DeltaIs e)) p h = absurd (none_some p h)
pair_in_is host first (Ok (LeaderIs e)) p h = absurd (none_some p h)
pair_in_is host first (Ok (BlockIs e)) p h = absurd (none_some p h)
pair_in_is host first (Ok (RequestIs e)) p h = absurd (none_some p h)
pair_in_is host first (Ok (ValueIs e)) p h = absurd (none_some p h)
pair_in_is host first (Ok (PairLeaderIs e)) p h = absurd (none_some p h)
pair_in_is host first (Err bad) p h = absurd (none_some p h)

pub later_is : (a b : Option PairBlock) (p : PairBlock) → later_pair a b ≡ Some p → (a ≡ Some p) ⊎ (b ≡ Some p)
later_is None b p h = inr h
later_is (Some x) None p h = inl h
later_is (Some x) (Some y) p h = by (nat_lt y.turn x.turn) h
  where
    by : (c : Bool) → (if c then Some x else Some y) ≡ Some p → (Some x ≡ Some p) ⊎ (Some y ≡ Some p)
    by true e = inl e
    by false e = inr e

-- A pair's block that some sector of these bytes spells.
pub record SpelledIn (g : Layout) (bs : List ℕ) (p : PairBlock) : Type 0 where
  pub sector : ℕ
  pub below : sector < block_sectors g
  pub spells : record_in g (sector_of g bs sector) ≡ Ok (PairIs p)

pub sectors_of_pairs : (g : Layout) → g.paired ≡ true → block_sectors g ≡ 2 * g.hosts
sectors_of_pairs g paired = ap (λ b. elim b as (λ z. ℕ) [ false ↦ g.hosts | true ↦ 2 * g.hosts ]) paired

front_below : (id n s : ℕ) → 1 ≤ id → id ≤ n → s ≡ 2 * n → 2 * (id - 1) < s
front_below id n s low high is = omega (arith, low, high, is)

back_below : (id n s : ℕ) → 1 ≤ id → id ≤ n → s ≡ 2 * n → 2 * (id - 1) + 1 < s
back_below id n s low high is = omega (arith, low, high, is)

pub read_spelled : (g : Layout) → g.paired ≡ true → (bs : List ℕ) (id : ℕ) → 1 ≤ id → id ≤ g.hosts → (p : PairBlock) → pair_read g bs id ≡ Some p → SpelledIn g bs p
read_spelled g paired bs id low high p h = by (later_is (pair_front g bs id) (pair_back g bs id) p h)
  where
    by : (pair_front g bs id ≡ Some p) ⊎ (pair_back g bs id ≡ Some p) → SpelledIn g bs p
    by (inl front) =
        record {
          sector = 2 * (id - 1);
          below = front_below id g.hosts (block_sectors g) low high (sectors_of_pairs g paired);
          spells = pair_in_is id true (record_in g (sector_of g bs (2 * (id - 1)))) p front;
        }
    by (inr back) =
        record {
          sector = 2 * (id - 1) + 1;
          below = back_below id g.hosts (block_sectors g) low high (sectors_of_pairs g paired);
          spells = pair_in_is id false (record_in g (sector_of g bs (2 * (id - 1) + 1))) p back;
        }

-- What is kept of an answer is read in it.
kept_by : (g : Layout) (bs : List ℕ) (id : ℕ) (p : PairBlock) (o : Option PairBlock)
    → elim o as (λ z. Option PairBlock) [ None ↦ None | Some q ↦ pair_read g bs id ] ≡ Some p → pair_read g bs id ≡ Some p
kept_by g bs id p None h = absurd (none_some p h)
kept_by g bs id p (Some q) h = h

pub kept_is_read : (g : Layout) (bs : List ℕ) (id : ℕ) (p : PairBlock) → pair_kept g bs id ≡ Some p → pair_read g bs id ≡ Some p
kept_is_read g bs id p h = kept_by g bs id p (pair_back g bs id) h

unwrapped : {A : Type 0} (o : Option (Option A)) (p : A) → unwrap_or o None ≡ Some p → o ≡ Some (Some p)
unwrapped None p h = absurd (none_some p h)
unwrapped (Some q) p h = ap (λ z. Some z) h

back_on : (id : ℕ) → 1 ≤ id → 1 + (id - 1) ≡ id
back_on id low = omega (arith, low)

-- What is merged of a host's pair was read in one of the two answers.
pub merged_is : (g : Layout) (r : BlocksRead) (id : ℕ) → 1 ≤ id → (p : PairBlock) → pair_merged g r id ≡ Some p
    → (slice_get r.kept (id - 1) ≡ Some (Some p)) ⊎ (pair_read g r.last id ≡ Some p)
merged_is g r id low p h = by (later_is (unwrap_or (slice_get r.kept (id - 1)) None) (pair_read g r.last id) p h)
  where
    by : (unwrap_or (slice_get r.kept (id - 1)) None ≡ Some p) ⊎ (pair_read g r.last id ≡ Some p)
        → (slice_get r.kept (id - 1) ≡ Some (Some p)) ⊎ (pair_read g r.last id ≡ Some p)
    by (inl old) = inl (unwrapped (slice_get r.kept (id - 1)) p old)
    by (inr new) = inr new

pub kept_read : (g : Layout) (bs : List ℕ) (id : ℕ) → 1 ≤ id → (p : PairBlock) → slice_get (pairs_kept g bs) (id - 1) ≡ Some (Some p) → pair_read g bs id ≡ Some p
kept_read g bs id low p h =
    let r = ranged (pair_kept g bs) 1 g.hosts (id - 1) (Some p) h in
    kept_is_read g bs id p (subst (λ n. pair_kept g bs n ≡ Some p) (back_on id low) r.1)

-- ---- what a read was given of

-- The answer whose bytes are last, and of a second read what was kept of the first.
pub record GivenOf (g : Layout) (m : Submitted) (ms : List Submitted) (r : BlocksRead) : Type 0 where
  pub last : blocks_bytes g m ≡ Some r.last
  pub kept : (r.kept ≡ []) ⊎ (kept_before g ms ≡ Some r.kept)

given_parts : (g : Layout) (m : Submitted) (ms : List Submitted) (r : BlocksRead) (again : Bool) (kept : Option (List (Option PairBlock))) (bytes : Option (List ℕ))
    → blocks_bytes g m ≡ bytes → kept_before g ms ≡ kept → given_with g again kept bytes ≡ Some r → GivenOf g m ms r
given_parts g m ms r again kept None is before h = absurd (none_some r h)
given_parts g m ms r false kept (Some bs) is before h =
    let same = (choose_some (not (needs_again g bs)) (read_once bs) r h).1 in
    record { last = is ∙ ap (λ (x : BlocksRead). Some x.last) same; kept = inl (sym (ap (λ (x : BlocksRead). x.kept) same)) }
given_parts g m ms r true None (Some bs) is before h = absurd (none_some r h)
given_parts g m ms r true (Some pairs) (Some bs) is before h =
    let same : (let x : BlocksRead = record { kept = pairs; last = bs } in x) ≡ r = some_value (record { kept = pairs; last = bs }) r h in
    record { last = is ∙ ap (λ (x : BlocksRead). Some x.last) same; kept = inr (before ∙ ap (λ (x : BlocksRead). Some x.kept) same) }

pub given_of : (g : Layout) (m : Submitted) (ms : List Submitted) (r : BlocksRead) → read_given g m ms ≡ Some r → GivenOf g m ms r
given_of g m ms r h = given_parts g m ms r (is_again m) (kept_before g ms) (blocks_bytes g m) refl refl h

-- The first read, of which pairs were kept.
pub record KeptOf (g : Layout) (ms : List Submitted) (pairs : List (Option PairBlock)) : Type 0 where
  pub first : Submitted
  pub rest : List Submitted
  pub is : ms ≡ first ∷ rest
  pub bytes : List ℕ
  pub told : blocks_bytes g first ≡ Some bytes
  pub same : pairs ≡ pairs_kept g bytes

kept_from : (g : Layout) (first : Submitted) (rest : List Submitted) (pairs : List (Option PairBlock)) (o : Option (List ℕ)) → blocks_bytes g first ≡ o
    → option_map (pairs_kept g) o ≡ Some pairs → KeptOf g (first ∷ rest) pairs
kept_from g first rest pairs None is h = absurd (none_some pairs h)
kept_from g first rest pairs (Some bs) is h =
    record { first = first; rest = rest; is = refl; bytes = bs; told = is; same = sym (some_value (pairs_kept g bs) pairs h) }

pub kept_of : (g : Layout) (ms : List Submitted) (pairs : List (Option PairBlock)) → kept_before g ms ≡ Some pairs → KeptOf g ms pairs
kept_of g [] pairs h = absurd (none_some pairs h)
kept_of g (first ∷ rest) pairs h = kept_from g first rest pairs (blocks_bytes g first) refl h

-- ---- a leader that was given

pub data LeaderFrom (g : Layout) (ms : List Submitted) (l : Leader) : Type 0 where
  Read_there : (m : Submitted) → Contains ms m → is_area_read m ≡ true → (bytes : List ℕ) → gave m ≡ Some bytes → leader_of g bytes ≡ Some l → LeaderFrom g ms l
  Made_of : (m : Submitted) → Contains ms m → (bs : List ℕ) → blocks_bytes g m ≡ Some bs → (p : PairBlock) → SpelledIn g bs p
      → (l.lockspace ≡ p.lockspace) × (l.resource ≡ p.resource) → LeaderFrom g ms l

older : (g : Layout) (m : Submitted) (ms : List Submitted) (l : Leader) → LeaderFrom g ms l → LeaderFrom g (m ∷ ms) l
older g m ms l (Read_there c there reads bytes told spelled) = Read_there c (contains_more m ms c there) reads bytes told spelled
older g m ms l (Made_of c there bs told p spelled names) = Made_of c (contains_more m ms c there) bs told p spelled names

-- The block of which a leader is made.
record MadeOf (ps : List PairBlock) (l : Leader) : Type 0 where
  pair : PairBlock
  inside : Contains ps pair
  names : (l.lockspace ≡ pair.lockspace) × (l.resource ≡ pair.resource)

made_by : (g : Layout) (ps : List PairBlock) (l : Leader) (o : Option PairBlock) → find (λ (p : PairBlock). p.block.lver == greatest_lver ps) ps ≡ o
    → option_and_then (λ (p : PairBlock). choose (nat_lt 0 (greatest_lver ps)) (fresh_leader g p.lockspace p.resource)) o ≡ Some l → MadeOf ps l
made_by g ps l None is h = absurd (none_some l h)
made_by g ps l (Some p) is h =
    let same = (choose_some (nat_lt 0 (greatest_lver ps)) (fresh_leader g p.lockspace p.resource) l h).1 in
    record {
      pair = p;
      inside = (find_inside (λ (p : PairBlock). p.block.lver == greatest_lver ps) ps p is).0;
      names = (sym (ap (λ (x : Leader). x.lockspace) same), sym (ap (λ (x : Leader). x.resource) same));
    }

high_id : (id n : ℕ) → id < 1 + n → id ≤ n
high_id id n h = omega (arith, h)

no_kept : {A : Type 0} (xs : List (Option A)) (i : ℕ) (p : A) → xs ≡ [] → slice_get xs i ≡ Some (Some p) → ⊥
no_kept xs i p none h = none_some (Some p) (subst (λ ys. slice_get ys i ≡ Some (Some p)) none h)

-- A block that was read for a host was read by the call, or by the one before.
pair_from : (g : Layout) → g.paired ≡ true → (m : Submitted) (ms : List Submitted) (r : BlocksRead) (l : Leader) → GivenOf g m ms r → (id : ℕ) → 1 ≤ id → id ≤ g.hosts
    → (p : PairBlock) → (l.lockspace ≡ p.lockspace) × (l.resource ≡ p.resource) → (slice_get r.kept (id - 1) ≡ Some (Some p)) ⊎ (pair_read g r.last id ≡ Some p)
    → LeaderFrom g (m ∷ ms) l
pair_from g paired m ms r l given id low high p names (inr last) =
    Made_of m (contains_first m ms) r.last given.last p (read_spelled g paired r.last id low high p last) names
pair_from g paired m ms r l given id low high p names (inl kept) = by given.kept
  where
    by : (r.kept ≡ []) ⊎ (kept_before g ms ≡ Some r.kept) → LeaderFrom g (m ∷ ms) l
    by (inl none) = absurd (no_kept r.kept (id - 1) p none kept)
    by (inr before) =
        let k = kept_of g ms r.kept before in
        let inside : Contains ms k.first = subst (λ ys. Contains ys k.first) (sym k.is) (contains_first k.first k.rest) in
        Made_of k.first (contains_more m ms k.first inside) k.bytes k.told p
        (read_spelled g paired k.bytes id low high p (kept_read g k.bytes id low p (subst (λ ys. slice_get ys (id - 1) ≡ Some (Some p)) k.same kept))) names

made_from : (g : Layout) → g.paired ≡ true → (m : Submitted) (ms : List Submitted) (r : BlocksRead) (l : Leader) → GivenOf g m ms r
    → leader_made g (present (pairs_of g r)) ≡ Some l → LeaderFrom g (m ∷ ms) l
made_from g paired m ms r l given h =
    let ps : List PairBlock = present (pairs_of g r) in
    let k : MadeOf ps l = made_by g ps l (find (λ (p : PairBlock). p.block.lver == greatest_lver ps) ps) refl h in
    let some = given_by (λ (x : Option PairBlock). x) (pairs_of g r) k.pair k.inside in
    let host = in_map (pair_merged g r) (range_with_len 1 g.hosts) some.0 some.1 in
    let range = in_range 1 g.hosts host.0 host.1 in
    pair_from g paired m ms r l given host.0 range.0 (high_id host.0 g.hosts range.1) k.pair k.names (merged_is g r host.0 range.0 k.pair (host.2 ∙ some.2))

-- With pairs: the one that is spelled, else one that is made.
pub paired_leader : (g : Layout) → g.paired ≡ true → (bytes : List ℕ) (r : BlocksRead)
    → leader_read g bytes r ≡ elim (leader_of g bytes) as (λ z. Option Leader) [ Some l ↦ Some l | None ↦ leader_made g (present (pairs_of g r)) ]
paired_leader g paired bytes r =
    ap (λ b. elim b as (λ z. Option Leader) [
      | false ↦ leader_of g bytes
      | true ↦ elim (leader_of g bytes) as (λ z. Option Leader) [ Some l ↦ Some l | None ↦ leader_made g (present (pairs_of g r)) ]
    ]) paired

read_from : (g : Layout) → g.paired ≡ true → (m : Submitted) (ms : List Submitted) (r : BlocksRead) (bytes : List ℕ) (l : Leader) → is_area_read m ≡ true → gave m ≡ Some bytes
    → GivenOf g m ms r → (o : Option Leader) → leader_of g bytes ≡ o
    → elim o as (λ z. Option Leader) [ Some x ↦ Some x | None ↦ leader_made g (present (pairs_of g r)) ] ≡ Some l → LeaderFrom g (m ∷ ms) l
read_from g paired m ms r bytes l area told given (Some x) is h = Read_there m (contains_first m ms) area bytes told (is ∙ h)
read_from g paired m ms r bytes l area told given None is h = made_from g paired m ms r l given h

call_by : (g : Layout) → g.paired ≡ true → (m : Submitted) (ms : List Submitted) (l : Leader) (a : Bool) (o : Option BlocksRead) (q : Option (List ℕ)) → is_area_read m ≡ a
    → read_given g m ms ≡ o → gave m ≡ q
    → elim a as (λ z. Option Leader) [ false ↦ None | true ↦ option_and_then (λ r. option_and_then (λ bytes. leader_read g bytes r) q) o ] ≡ Some l
    → LeaderFrom g (m ∷ ms) l
call_by g paired m ms l false o q area given told h = absurd (none_some l h)
call_by g paired m ms l true None q area given told h = absurd (none_some l h)
call_by g paired m ms l true (Some r) None area given told h = absurd (none_some l h)
call_by g paired m ms l true (Some r) (Some bytes) area given told h =
    read_from g paired m ms r bytes l area told (given_of g m ms r given) (leader_of g bytes) refl (sym (paired_leader g paired bytes r) ∙ h)

call_from : (g : Layout) → g.paired ≡ true → (m : Submitted) (ms : List Submitted) (l : Leader) → leader_given g m ms ≡ Some l → LeaderFrom g (m ∷ ms) l
call_from g paired m ms l h = call_by g paired m ms l (is_area_read m) (read_given g m ms) (gave m) refl refl refl h

given_from : (g : Layout) → g.paired ≡ true → (m : Submitted) (ms : List Submitted) (l : Leader) (o : Option Leader) → leader_given g m ms ≡ o
    → (Contains (leaders_given g ms) l → LeaderFrom g ms l)
    → Contains (elim o as (λ z. List Leader) [ None ↦ leaders_given g ms | Some x ↦ x ∷ leaders_given g ms ]) l → LeaderFrom g (m ∷ ms) l
given_from g paired m ms l None is rest there = older g m ms l (rest there)
given_from g paired m ms l (Some x) is rest there = by (contains_cases x (leaders_given g ms) l there)
  where
    by : (x ≡ l) ⊎ Contains (leaders_given g ms) l → LeaderFrom g (m ∷ ms) l
    by (inl here) = call_from g paired m ms l (is ∙ ap (λ z. Some z) here)
    by (inr old) = older g m ms l (rest old)

-- A leader that a lease's reads of the area gave.
pub leader_from : (g : Layout) → g.paired ≡ true → (ms : List Submitted) (l : Leader) → Contains (leaders_given g ms) l → LeaderFrom g ms l
leader_from g paired [] l there = absurd (contains_none l there)
leader_from g paired (m ∷ ms) l there = given_from g paired m ms l (leader_given g m ms) refl (λ old. leader_from g paired ms l old) there
