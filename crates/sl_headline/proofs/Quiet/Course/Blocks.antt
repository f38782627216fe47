-- Lists of blocks that all spell.
use Rattle.sl_trace.specs.Ballots.{ballot_blocks, block_ahead, block_rival, greater_bal, in_instance, known_block, stop_among, stop_of, torn_host, value_of, value_to_write, whole_blocks, with_own}
use Rattle.sl_trace.specs.declared.lease.Stop.TheVariants.{BlockAhead, BlockRival, BlockTorn}
use Rattle.sl_trace.specs.declared.lease.Stop.{Stop}
use Rattle.sl_trace.specs.Leases.{top_lver}
use Rattle.sl_headline.specs.Quiet.Course.QuietDecisions.{StandsAlone, all_whole}
use Rattle.sl_sector.specs.declared.sector.Block.{Block}
use Rattle.sl_sector.specs.declared.sector.Owner.{Owner}
use Rattle.sl_words.specs.Words.{choose, greatest, present}
use Rattle.std.proofs.Common.{ap, arith, inl, inr, refl, subst, sym, tests, ◌∙◌}
use Rattle.std.specs.List.{AllByRecursion, prefix_len, cons_option}
use Rattle.std.specs.Option.{option_map_or}
use Rattle.std.specs.Prelude.{Bool, List, None, Option, Some, [], false, filter, find, fold, if◌then◌else◌, is_none, length, map, max, nat_lt, not, option_map, position, true, unwrap_or, ℕ, ◌&&◌, ◌+◌, ◌<◌, ◌==◌, ◌∷◌, ◌≡◌, ◌≤◌, ◌⊎◌}

-- ---- numbers

never_below : (n : ℕ) → nat_lt n n ≡ false
never_below n = grind (arith, tests)

not_above : (n m : ℕ) → m < n → nat_lt n m ≡ false
not_above n m less = grind (arith, tests, less)

never_both : (a b : Bool) → b ≡ false → (a && b) ≡ false
never_both true b h = h
never_both false b h = refl

not_same : (n m : ℕ) (rest : Bool) → m < n → (m == n && rest) ≡ false
not_same n m rest less = grind (arith, tests, less)

less_is_other : (n m : ℕ) → m < n → (m == n) ≡ true → ⊥
less_is_other n m less is = grind (arith, tests, less, is)

weaker : (a b c : ℕ) → a ≤ b → b ≤ c → a ≤ c
weaker a b c h k = omega (arith, h, k)

-- ---- all there

pub present_whole : (bs : List Block) → present (all_whole bs) ≡ bs
present_whole [] = refl
present_whole (b ∷ bs) = ap (λ xs. b ∷ xs) (present_whole bs)

whole_prefix : (bs : List Block) → prefix_len (λ o. not (is_none o)) (all_whole bs) ≡ length (all_whole bs)
whole_prefix [] = refl
whole_prefix (b ∷ bs) = omega (arith, whole_prefix bs)

pub none_torn : (bs : List Block) → position is_none (all_whole bs) ≡ None
none_torn bs =
    ap (λ n. if nat_lt n (length (all_whole bs)) then Some n else None) (whole_prefix bs)
    ∙ ap (λ b. if b then Some (length (all_whole bs)) else None) (never_below (length (all_whole bs)))

known_whole : (own b : Block) (host : ℕ) → known_block own (Some b) host ≡ Some b
known_whole own b host = elim (host == own.host) as (λ t. (if t then Some (unwrap_or (Some b) own) else Some b) ≡ Some b) [ true ↦ refl | false ↦ refl ]

torn_step : (o : Option Block) (b : Block) (host : ℕ) (ps : List (ℕ × Option Block)) → o ≡ Some b → torn_host ps ≡ None → torn_host ((host, o) ∷ ps) ≡ None
torn_step o b host ps is rest = ap (λ x. elim x as (λ y. Option ℕ) [ None ↦ Some host | Some c ↦ torn_host ps ]) is ∙ rest

whole_step : (o : Option Block) (b : Block) (bs : List Block) (host : ℕ) (ps : List (ℕ × Option Block)) → o ≡ Some b → whole_blocks ps ≡ bs → whole_blocks ((host, o) ∷ ps) ≡ b ∷ bs
whole_step o b bs host ps is rest = ap (λ x. cons_option x (whole_blocks ps)) is ∙ ap (λ xs. b ∷ xs) rest

whole_from : (own : Block) (bs : List Block) (host : ℕ) → (torn_host (with_own own host (all_whole bs)) ≡ None) × (whole_blocks (with_own own host (all_whole bs)) ≡ bs)
whole_from own [] host = (refl, refl)
whole_from own (b ∷ bs) host =
    let rest = whole_from own bs (host + 1) in (
      torn_step (known_block own (Some b) host) b host (with_own own (host + 1) (all_whole bs)) (known_whole own b host) rest.0,
      whole_step (known_block own (Some b) host) b bs host (with_own own (host + 1) (all_whole bs)) (known_whole own b host) rest.1,
    )

-- The blocks that a ballot goes by are those that were read.
pub ballot_whole : (own : Block) (bs : List Block) → ballot_blocks own (all_whole bs) ≡ bs
ballot_whole own bs = (whole_from own bs 1).1

-- ---- nothing stops a ballot whose block stands alone

test_of : (own b : Block) → (b ≡ own) ⊎ (b.lver < own.lver) → (nat_lt own.lver b.lver ≡ false) × ((b.lver == own.lver && nat_lt own.mbal b.mbal) ≡ false)
test_of own b (inl same) = (
  ap (λ (x : Block). nat_lt own.lver x.lver) same ∙ never_below own.lver,
  ap (λ (x : Block). x.lver == own.lver && nat_lt own.mbal x.mbal) same ∙ never_both (own.lver == own.lver) (nat_lt own.mbal own.mbal) (never_below own.mbal),
)
test_of own b (inr less) = (not_above own.lver b.lver less, not_same own.lver b.lver (nat_lt own.mbal b.mbal) less)

find_step : (p : Block → Bool) (b : Block) (bs : List Block) → p b ≡ false → find p bs ≡ None → find p (b ∷ bs) ≡ None
find_step p b bs is rest = ap (λ t. if t then Some b else find p bs) is ∙ rest

none_ahead : (own : Block) (bs : List Block) → StandsAlone own bs → block_ahead own bs ≡ None
none_ahead own [] h = refl
none_ahead own (b ∷ bs) h = find_step (λ b. nat_lt own.lver b.lver) b bs (test_of own b h.0).0 (none_ahead own bs h.1)

none_rival : (own : Block) (bs : List Block) → StandsAlone own bs → block_rival own bs ≡ None
none_rival own [] h = refl
none_rival own (b ∷ bs) h = find_step (λ b. b.lver == own.lver && nat_lt own.mbal b.mbal) b bs (test_of own b h.0).1 (none_rival own bs h.1)

among_by : (own : Block) (bs : List Block) (a : Option Block) → block_ahead own bs ≡ a → a ≡ None → block_rival own bs ≡ None → stop_among own bs ≡ None
among_by own bs a is none rival =
    ap (λ o. elim o as (λ x. Option Stop) [ Some b ↦ Some (BlockAhead b.host b.lver) | None ↦ option_map (λ b. BlockRival b.host b.mbal) (block_rival own bs) ]) (is ∙ none)
    ∙ ap (λ o. option_map (λ b. BlockRival b.host b.mbal) o) rival

pub unstopped : (own : Block) (bs : List Block) → StandsAlone own bs → stop_of own (all_whole bs) ≡ None
unfolding stop_of
unstopped own bs h =
    ap (λ o. elim o as (λ x. Option Stop) [ Some host ↦ Some (BlockTorn host) | None ↦ stop_among own (ballot_blocks own (all_whole bs)) ]) (whole_from own bs 1).0
    ∙ ap (λ xs. stop_among own xs) (ballot_whole own bs) ∙ among_by own bs (block_ahead own bs) refl (none_ahead own bs h) (none_rival own bs h)

-- ---- its value is the session itself

own_bal : (own b : Block) (t : Bool) → (b.lver == own.lver) ≡ t → (b ≡ own) ⊎ (b.lver < own.lver) → own.bal ≡ 0
    → (bs : List Block) → fold greater_bal None (in_instance own.lver bs) ≡ None
    → fold greater_bal None (if t then b ∷ in_instance own.lver bs else in_instance own.lver bs) ≡ None
own_bal own b false is h zero_bal bs rest = rest
own_bal own b true is (inr less) zero_bal bs rest = absurd (less_is_other own.lver b.lver less is)
own_bal own b true is (inl same) zero_bal bs rest =
    ap (λ (x : Block). fold greater_bal (choose (nat_lt 0 x.bal) x) (in_instance own.lver bs)) same
    ∙ ap (λ n. fold greater_bal (choose (nat_lt 0 n) own) (in_instance own.lver bs)) zero_bal ∙ rest

none_accepted : (own : Block) (bs : List Block) → StandsAlone own bs → own.bal ≡ 0 → fold greater_bal None (in_instance own.lver bs) ≡ None
none_accepted own [] h z = refl
none_accepted own (b ∷ bs) h z = own_bal own b (b.lver == own.lver) refl h.0 z bs (none_accepted own bs h.1 z)

pub own_value : (self : Owner) (own : Block) (bs : List Block) → StandsAlone own bs → own.bal ≡ 0 → value_to_write self own.lver bs ≡ self
own_value self own bs h z = ap (λ o. option_map_or value_of o self) (none_accepted own bs h z)

-- ---- numbers of an instance that none of them is in

below_test : (n : ℕ) (b : Block) → b.lver < n → (b.lver == n) ≡ false
below_test n b less = grind (arith, tests, less)

pub none_in : (n : ℕ) (bs : List Block) → AllByRecursion (λ (b : Block). b.lver < n) bs → in_instance n bs ≡ []
none_in n [] h = refl
none_in n (b ∷ bs) h = ap (λ t. if t then b ∷ in_instance n bs else in_instance n bs) (below_test n b h.0) ∙ none_in n bs h.1

pub only_own : (n : ℕ) (own : Block) (bs : List Block) → AllByRecursion (λ (b : Block). b.lver < n) bs → in_instance n (own ∷ bs) ≡ in_instance n (own ∷ [])
only_own n own bs h = ap (λ xs. if own.lver == n then own ∷ xs else xs) (none_in n bs h)

-- ---- the greatest

max_least : (a b n : ℕ) → a ≤ n → b ≤ n → max a b ≤ n
max_least a b n h k = omega (arith, h, k)

filtered_below : (p : Block → Bool) (n : ℕ) (bs : List Block) → AllByRecursion (λ (b : Block). b.lver ≤ n) bs → greatest (map (λ (b : Block). b.lver) (filter p bs)) ≤ n
filtered_below p n [] h = omega arith
filtered_below p n (b ∷ bs) h =
    elim (p b) as (λ t. greatest (map (λ (b : Block). b.lver) (if t then b ∷ filter p bs else filter p bs)) ≤ n) [
      | true ↦ max_least b.lver (greatest (map (λ (b : Block). b.lver) (filter p bs))) n h.0 (filtered_below p n bs h.1)
      | false ↦ filtered_below p n bs h.1
    ]

pub top_least : (own : Block) (n m : ℕ) (bs : List Block) → own.lver ≤ m → n ≤ m → AllByRecursion (λ (b : Block). b.lver ≤ n) bs → top_lver own (all_whole bs) ≤ m
top_least own n m bs low le h =
    subst (λ xs. greatest (own.lver ∷ map (λ (b : Block). b.lver) (filter (λ (b : Block). not (b.host == own.host)) xs)) ≤ m) (sym (present_whole bs))
    (max_least own.lver (greatest (map (λ (b : Block). b.lver) (filter (λ (b : Block). not (b.host == own.host)) bs))) m low
    (weaker (greatest (map (λ (b : Block). b.lver) (filter (λ (b : Block). not (b.host == own.host)) bs))) n m (filtered_below (λ (b : Block). not (b.host == own.host)) n bs h) le))
