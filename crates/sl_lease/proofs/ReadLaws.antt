-- What a read gives, host by host, and what a second read gives with the first.
use Rattle.sl_area.specs.AreaSizes.{Sizes, layout_of}
use Rattle.sl_area.specs.Pairs.{BlocksRead, later_pair, pair_back, pair_kept, pair_merged, pair_read, pairs_of}
use Rattle.sl_area.specs.TornLeader.{leader_made}
use Rattle.sl_area.specs.AreaLayout.{area_sectors, block_sectors, blocks_in, leader_of}
use Rattle.sl_host_state.specs.HeardInputs.{blocks_heard, is_area_step, is_block_step, turn_heard}
use Rattle.sl_lease.specs.LeaseQuestions.{heard_with, leader_given}
use Rattle.sl_lease.specs.Changes.{shows_blocks}
use Rattle.sl_lease.specs.Reads.{HasGiven, HasPlaces, HasRead, ReadRoom, behind, blocks_of_pairs, blocks_to, host_block, is_asked_again, is_torn_to, kept_to, leader_with, merged_with, pair_places, pairs_to, sectors_read}
use Rattle.sl_sector.specs.declared.sector.Block.{Block}
use Rattle.sl_sector.specs.declared.sector.Leader.{Leader}
use Rattle.sl_sector.specs.declared.sector.PairBlock.{PairBlock}
use Rattle.sl_trace.proofs.PlainReads.{blocks_plain}
use Rattle.sl_trace.proofs.PlainWork.{again_plain}
use Rattle.sl_trace.specs.LeaseDecisions.{first_step, part_read, read_of_step}
use Rattle.sl_trace.specs.declared.effects.LeaseRead.TheVariants.{OfArea, OfBlock, OfFree, OfPhase1, OfPhase2}
use Rattle.sl_trace.specs.declared.effects.LeaseRead.{LeaseRead}
use Rattle.sl_trace.specs.declared.effects.LeaseStep.TheVariants.{ClearMode, FreeLeader, Phase1Read, Phase1Write, Phase2Read, Phase2Write, ReadAgain, ReadArea, ReadBeforeBlock, ReadBeforeFree, SetMode, TakeLeader}
use Rattle.sl_trace.specs.declared.effects.LeaseStep.{LeaseStep}
use Rattle.sl_trace.specs.declared.input.Answer.TheVariants.{Read}
use Rattle.sl_words.proofs.CaseLaws.{not_both}
use Rattle.sl_words.specs.Words.{present}
use Rattle.std.proofs.Common.{Bool, IfSome, List, None, Option, Some, [], ap, arith, cond, drop, false, get_or, is_none, length, mul-le-mul_left, refl, slice_set, subst, suc, sym, take, true, zero, ℕ, ◌&&◌, ◌*◌, ◌++◌, ◌+◌, ◌-◌, ◌<◌, ◌||◌, ◌∙◌, ◌∷◌, ◌≡◌, ◌≤◌}
use Rattle.std.proofs.lemmas.List.FromFn.{get_or-map-range_with_len, length-map-range_with_len, map-range_with_len_more}
use Rattle.std.proofs.lemmas.List.{length-map, same_lists, take_all, take_more_set}
use Rattle.std.proofs.Math.ListN.{length-set}
use Rattle.std.proofs.Math.Nat.{mul_comm}
use Rattle.std.specs.List.{list_any, range_with_len}
use Rattle.std.specs.Option.{option_map_or}
use Rattle.std.specs.Prelude.{is_some, option_and_then, option_map, slice_get, slice_index_or, unwrap_or}

-- ---- host by host

-- One host more.
pub blocks_to-more : (z : Sizes) (bytes : List ℕ) (n : ℕ) → blocks_to z bytes (n + 1) ≡ blocks_to z bytes n ++ host_block z bytes (n + 1) ∷ []
blocks_to-more z bytes n = map-range_with_len_more (host_block z bytes) 1 n (n + 1) (omega arith)

pub pairs_to-more : (z : Sizes) (bytes : List ℕ) (n : ℕ) → pairs_to z bytes (n + 1) ≡ pairs_to z bytes n ++ pair_read (layout_of z) bytes (n + 1) ∷ []
pairs_to-more z bytes n = map-range_with_len_more (pair_read (layout_of z) bytes) 1 n (n + 1) (omega arith)

any_from : (p : ℕ → Bool) (a n : ℕ) → list_any p (range_with_len a (suc n)) ≡ (list_any p (range_with_len a n) || p (a + n))
any_from p a zero = by (p a) ∙ ap (λ k. false || p k) here where
  by : (b : Bool) → (b || false) ≡ (false || b)
  by true = refl
  by false = refl

  here : a ≡ a + 0
  here = omega arith
any_from p a (suc n) = ap (λ b. p a || b) (any_from p (a + 1) n) ∙ by (p a) ∙ ap (λ k. (p a || list_any p (range_with_len (a + 1) n)) || p k) there where
  by : (b : Bool) → (b || (list_any p (range_with_len (a + 1) n) || p (a + 1 + n))) ≡ ((b || list_any p (range_with_len (a + 1) n)) || p (a + 1 + n))
  by true = refl
  by false = refl

  there : a + 1 + n ≡ a + suc n
  there = omega arith

pub is_torn_to-more : (z : Sizes) (bytes : List ℕ) (n : ℕ) → is_torn_to z bytes (n + 1) ≡ (is_torn_to z bytes n || is_none (pair_back (layout_of z) bytes (n + 1)))
is_torn_to-more z bytes n =
    let next : n + 1 ≡ suc n = omega arith in
    let last : 1 + n ≡ n + 1 = omega arith in
    ap (λ k. list_any (λ id. is_none (pair_back (layout_of z) bytes id)) (range_with_len 1 k)) next
    ∙ any_from (λ id. is_none (pair_back (layout_of z) bytes id)) 1 n
    ∙ ap (λ k. is_torn_to z bytes n || is_none (pair_back (layout_of z) bytes k)) last

-- What may be kept of a first read, as far as the hosts are read: nothing where no list stands by.
abbrev pub KeptTo : Sizes → List ℕ → ℕ → Option (List (Option PairBlock)) → Option (List (Option PairBlock)) → Type 0
KeptTo z bytes n None now = now ≡ None
KeptTo z bytes n (Some before) now = (ps : List (Option PairBlock)) × (now ≡ Some ps) × (length ps ≡ z.hosts) × (take n ps ≡ kept_to z bytes n)

pub kept_none : (z : Sizes) (bytes : List ℕ) (r : ReadRoom) → HasPlaces z r → KeptTo z bytes 0 r.kept r.kept
kept_none z bytes r places = by r.kept places.kept where
  by : (o : Option (List (Option PairBlock))) → IfSome o (λ ps. length ps ≡ z.hosts) → KeptTo z bytes 0 o o
  by None long = refl
  by (Some ps) long = (ps, refl, long, refl)

pub kept_more : (z : Sizes) (bytes : List ℕ) (n : ℕ) (v : Option PairBlock) (before now : Option (List (Option PairBlock))) → n < z.hosts → v ≡ pair_kept (layout_of z) bytes (n + 1)
    → KeptTo z bytes n before now → KeptTo z bytes (n + 1) before (option_map (λ ps. slice_set ps n v) now)
kept_more z bytes n v None now inside is k = ap (option_map (λ ps. slice_set ps n v)) k
kept_more z bytes n v (Some old) now inside is k =
    let long : length k.0 ≡ z.hosts = k.2 in (
      slice_set k.0 n v,
      ap (option_map (λ ps. slice_set ps n v)) k.1,
      length-set k.0 n v ∙ long,
      take_more_set k.0 n v (omega (arith, long, inside)) ∙ ap (λ xs. xs ++ v ∷ []) k.3 ∙ ap (λ x. kept_to z bytes n ++ x ∷ []) is
          ∙ sym (map-range_with_len_more (pair_kept (layout_of z) bytes) 1 n (n + 1) (omega arith)),
    )

pub kept_room : (z : Sizes) (bytes : List ℕ) (n : ℕ) (before now : Option (List (Option PairBlock))) → n < z.hosts → KeptTo z bytes n before now → IfSome now (λ ps. n < length ps)
kept_room z bytes n None now inside k = subst (λ o. IfSome o (λ ps. n < length ps)) (sym k) tt
kept_room z bytes n (Some old) now inside k = let long : length k.0 ≡ z.hosts = k.2 in subst (λ o. IfSome o (λ ps. n < length ps)) (sym k.1) (omega (arith, long, inside))

whole : (n : ℕ) (xs ys : List (Option PairBlock)) → length xs ≡ n → take n xs ≡ ys → xs ≡ ys
whole n xs ys long is = sym (take_all n xs (omega (arith, long))) ∙ is

pub kept_all : (z : Sizes) (bytes : List ℕ) (before now : Option (List (Option PairBlock))) → KeptTo z bytes z.hosts before now → now ≡ option_map (λ old. kept_to z bytes z.hosts) before
kept_all z bytes None now k = k
kept_all z bytes (Some old) now k = k.1 ∙ ap (λ ps. Some ps) (whole z.hosts k.0 (kept_to z bytes z.hosts) k.2 k.3)

-- Of a host whose second sector is torn nothing is kept.
pub kept_is : (z : Sizes) (bytes : List ℕ) (n : ℕ) (v : Option PairBlock) → v ≡ pair_read (layout_of z) bytes n → cond (is_none (pair_back (layout_of z) bytes n)) None v ≡ pair_kept (layout_of z) bytes n
kept_is z bytes n v is = ap (cond (is_none (pair_back (layout_of z) bytes n)) None) is ∙ by (pair_back (layout_of z) bytes n) where
  by : (o : Option PairBlock) → cond (is_none o) None (pair_read (layout_of z) bytes n) ≡ elim o as (λ x. Option PairBlock) [ None ↦ None | Some q ↦ pair_read (layout_of z) bytes n ]
  by None = refl
  by (Some q) = refl

-- ---- by its step

all_behind : (z : Sizes) (bytes : List ℕ) → bytes ≡ behind z 0 bytes
all_behind z bytes = let none : 0 * z.sector ≡ 0 = omega arith in ap (λ n. drop n bytes) (sym none)

-- What stands before the blocks.
pub part_is : (z : Sizes) (bytes : List ℕ) (step : LeaseStep) → part_read (layout_of z) bytes (first_step step) ≡ behind z (cond (is_area_step step) 2 0) bytes
part_is z bytes (ReadArea name) = refl
part_is z bytes ReadBeforeFree = refl
part_is z bytes ReadBeforeBlock = all_behind z bytes
part_is z bytes (ReadAgain (OfArea name)) = refl
part_is z bytes (ReadAgain OfFree) = refl
part_is z bytes (ReadAgain OfBlock) = all_behind z bytes
part_is z bytes (ReadAgain OfPhase1) = all_behind z bytes
part_is z bytes (ReadAgain OfPhase2) = all_behind z bytes
part_is z bytes Phase1Write = all_behind z bytes
part_is z bytes Phase1Read = all_behind z bytes
part_is z bytes Phase2Write = all_behind z bytes
part_is z bytes Phase2Read = all_behind z bytes
part_is z bytes TakeLeader = all_behind z bytes
part_is z bytes SetMode = all_behind z bytes
part_is z bytes FreeLeader = all_behind z bytes
part_is z bytes ClearMode = all_behind z bytes

-- Whether the read is to be made once more.
if_torn : (b : Bool) (o : Option LeaseRead) → (b && is_some o) ≡ is_some (elim b as (λ x. Option LeaseRead) [ false ↦ None | true ↦ o ])
if_torn true o = refl
if_torn false o = refl

never : (b c : Bool) → (b && false) ≡ is_some (elim c as (λ x. Option LeaseRead) [ false ↦ None | true ↦ None ])
never true true = refl
never true false = refl
never false true = refl
never false false = refl

pub again_is : (z : Sizes) (bytes : List ℕ) (step : LeaseStep) → z.paired ≡ true
    → (is_torn_to z (part_read (layout_of z) bytes (first_step step)) z.hosts && is_some (read_of_step step)) ≡ is_asked_again z step bytes
again_is z bytes step paired = by step ∙ sym (ap (λ b. is_some (elim (b && is_torn_to z (part_read (layout_of z) bytes step) z.hosts) as (λ x. Option LeaseRead) [ false ↦ None | true ↦ read_of_step step ])) paired) where
  by : (at : LeaseStep) → (is_torn_to z (part_read (layout_of z) bytes (first_step at)) z.hosts && is_some (read_of_step at))
      ≡ is_some (elim (is_torn_to z (part_read (layout_of z) bytes at) z.hosts) as (λ x. Option LeaseRead) [ false ↦ None | true ↦ read_of_step at ])
  by (ReadArea name) = if_torn (is_torn_to z (part_read (layout_of z) bytes (ReadArea name)) z.hosts) (read_of_step (ReadArea name))
  by ReadBeforeFree = if_torn (is_torn_to z (part_read (layout_of z) bytes ReadBeforeFree) z.hosts) (read_of_step ReadBeforeFree)
  by ReadBeforeBlock = if_torn (is_torn_to z (part_read (layout_of z) bytes ReadBeforeBlock) z.hosts) (read_of_step ReadBeforeBlock)
  by (ReadAgain (OfArea name)) = never (is_torn_to z (part_read (layout_of z) bytes (first_step (ReadAgain (OfArea name)))) z.hosts) (is_torn_to z (part_read (layout_of z) bytes (ReadAgain (OfArea name))) z.hosts)
  by (ReadAgain OfFree) = never (is_torn_to z (part_read (layout_of z) bytes (first_step (ReadAgain OfFree))) z.hosts) (is_torn_to z (part_read (layout_of z) bytes (ReadAgain OfFree)) z.hosts)
  by (ReadAgain OfBlock) = never (is_torn_to z (part_read (layout_of z) bytes (first_step (ReadAgain OfBlock))) z.hosts) (is_torn_to z (part_read (layout_of z) bytes (ReadAgain OfBlock)) z.hosts)
  by (ReadAgain OfPhase1) = never (is_torn_to z (part_read (layout_of z) bytes (first_step (ReadAgain OfPhase1))) z.hosts) (is_torn_to z (part_read (layout_of z) bytes (ReadAgain OfPhase1)) z.hosts)
  by (ReadAgain OfPhase2) = never (is_torn_to z (part_read (layout_of z) bytes (first_step (ReadAgain OfPhase2))) z.hosts) (is_torn_to z (part_read (layout_of z) bytes (ReadAgain OfPhase2)) z.hosts)
  by Phase1Write = if_torn (is_torn_to z (part_read (layout_of z) bytes Phase1Write) z.hosts) (read_of_step Phase1Write)
  by Phase1Read = if_torn (is_torn_to z (part_read (layout_of z) bytes Phase1Read) z.hosts) (read_of_step Phase1Read)
  by Phase2Write = if_torn (is_torn_to z (part_read (layout_of z) bytes Phase2Write) z.hosts) (read_of_step Phase2Write)
  by Phase2Read = if_torn (is_torn_to z (part_read (layout_of z) bytes Phase2Read) z.hosts) (read_of_step Phase2Read)
  by TakeLeader = if_torn (is_torn_to z (part_read (layout_of z) bytes TakeLeader) z.hosts) (read_of_step TakeLeader)
  by SetMode = if_torn (is_torn_to z (part_read (layout_of z) bytes SetMode) z.hosts) (read_of_step SetMode)
  by FreeLeader = if_torn (is_torn_to z (part_read (layout_of z) bytes FreeLeader) z.hosts) (read_of_step FreeLeader)
  by ClearMode = if_torn (is_torn_to z (part_read (layout_of z) bytes ClearMode) z.hosts) (read_of_step ClearMode)

pub once_without_pairs : (z : Sizes) (bytes : List ℕ) (step : LeaseStep) → z.paired ≡ false → false ≡ is_asked_again z step bytes
once_without_pairs z bytes step plain = sym (ap is_some (again_plain (layout_of z) plain bytes step))

shows_is : (step : LeaseStep) → shows_blocks step ≡ is_block_step step
shows_is (ReadArea name) = refl
shows_is ReadBeforeFree = refl
shows_is ReadBeforeBlock = refl
shows_is (ReadAgain (OfArea name)) = refl
shows_is (ReadAgain OfFree) = refl
shows_is (ReadAgain OfBlock) = refl
shows_is (ReadAgain OfPhase1) = refl
shows_is (ReadAgain OfPhase2) = refl
shows_is Phase1Write = refl
shows_is Phase1Read = refl
shows_is Phase2Write = refl
shows_is Phase2Read = refl
shows_is TakeLeader = refl
shows_is SetMode = refl
shows_is FreeLeader = refl
shows_is ClearMode = refl

-- ---- the own pair's turn

abbrev pub turn_in : Option PairBlock → Option ℕ
turn_in o = option_map (λ q. q.turn) o

none_in : (xs : List (Option PairBlock)) (k : ℕ) → length xs ≡ 0 → slice_index_or xs k None ≡ None
none_in [] k empty = refl
none_in (x ∷ xs) k empty = absurd (omega arith)

pub turn_is : (z : Sizes) (host : ℕ) (step : LeaseStep) (bytes : List ℕ) (r : ReadRoom) → 1 ≤ host → host ≤ z.hosts → HasRead z (part_read (layout_of z) bytes (first_step step)) r
    → cond (shows_blocks step) (turn_in (slice_index_or r.pairs (host - 1) None)) None ≡ turn_heard (layout_of z) host step None (Read bytes)
turn_is z host step bytes r least most has = by z.paired refl where
  heard_in : Bool → Option ℕ
  heard_in b =
      elim b as (λ x. Option ℕ) [ false ↦ None | true ↦ option_and_then (λ bs. option_map (λ q. q.turn) (pair_read (layout_of z) bs host)) (blocks_heard (layout_of z) step bytes) ]

  no_turn : (b : Bool) → cond b None None ≡ heard_in false
  no_turn true = refl
  no_turn false = refl

  at_step : (b : Bool) → cond b (turn_in (pair_read (layout_of z) (part_read (layout_of z) bytes (first_step step)) host)) None
      ≡ option_and_then (λ bs. option_map (λ q. q.turn) (pair_read (layout_of z) bs host)) (elim b as (λ x. Option (List ℕ)) [ false ↦ None | true ↦ Some (part_read (layout_of z) bytes (first_step step)) ])
  at_step true = refl
  at_step false = refl

  by : (b : Bool) → z.paired ≡ b → cond (shows_blocks step) (turn_in (slice_index_or r.pairs (host - 1) None)) None ≡ heard_in z.paired
  by false plain =
      let places : length r.pairs ≡ pair_places z = has.places.pairs in
      ap (λ o. cond (shows_blocks step) (turn_in o) None) (none_in r.pairs (host - 1) (places ∙ ap (λ b. cond b z.hosts 0) plain)) ∙ no_turn (shows_blocks step) ∙ ap heard_in (sym plain)
  by true paired =
      ap (λ ps. cond (shows_blocks step) (turn_in (slice_index_or ps (host - 1) None)) None) (has.pairs paired)
      ∙ ap (λ o. cond (shows_blocks step) (turn_in o) None)
      (get_or-map-range_with_len (pair_read (layout_of z) (part_read (layout_of z) bytes (first_step step))) 1 z.hosts (host - 1) host None (omega (arith, least, most)) (omega (arith, least)))
      ∙ ap (λ b. cond b (turn_in (pair_read (layout_of z) (part_read (layout_of z) bytes (first_step step)) host)) None) (shows_is step)
      ∙ at_step (is_block_step step) ∙ ap heard_in (sym paired)

-- ---- with what the first of two reads gave

index_is : (xs : List (Option PairBlock)) (k : ℕ) → slice_index_or xs k None ≡ unwrap_or (slice_get xs k) None
index_is [] k = refl
index_is (x ∷ xs) zero = refl
index_is (x ∷ xs) (suc k) = index_is xs k

merged : (z : Sizes) (first : List (Option PairBlock)) (last : List ℕ) → merged_with first (pairs_to z last z.hosts) ≡ pairs_of (layout_of z) (record { kept = first; last = last })
merged z first last =
    same_lists (merged_with first (pairs_to z last z.hosts)) (pairs_of (layout_of z) (record { kept = first; last = last }))
    (length-map-range_with_len at 0 (length (pairs_to z last z.hosts)) ∙ places ∙ sym (length-map-range_with_len (pair_merged (layout_of z) (record { kept = first; last = last })) 1 z.hosts))
    (λ k d inside. each k d (omega (arith, inside, length-map-range_with_len at 0 (length (pairs_to z last z.hosts)), places))) where
      at : ℕ → Option PairBlock
      at k = later_pair (slice_index_or first k None) (slice_index_or (pairs_to z last z.hosts) k None)

      places : length (pairs_to z last z.hosts) ≡ z.hosts
      places = length-map-range_with_len (pair_read (layout_of z) last) 1 z.hosts

      one_less : (k : ℕ) → k ≡ k + 1 - 1
      one_less k = omega arith

      each : (k : ℕ) (d : Option PairBlock) → k < z.hosts
          → get_or (merged_with first (pairs_to z last z.hosts)) k d ≡ get_or (pairs_of (layout_of z) (record { kept = first; last = last })) k d
      each k d inside =
          get_or-map-range_with_len at 0 (length (pairs_to z last z.hosts)) k k d (omega (arith, inside, places)) (omega arith)
          ∙ ap (later_pair (slice_index_or first k None)) (get_or-map-range_with_len (pair_read (layout_of z) last) 1 z.hosts k (k + 1) None inside (omega arith))
          ∙ ap (λ o. later_pair o (pair_read (layout_of z) last (k + 1))) (index_is first k ∙ ap (λ i. unwrap_or (slice_get first i) None) (one_less k))
          ∙ sym (get_or-map-range_with_len (pair_merged (layout_of z) (record { kept = first; last = last })) 1 z.hosts k (k + 1) d inside (omega arith))

pairs_are : {T : Type 0} (f : T → List (Option PairBlock)) (z : Sizes) (first : Option T) (last : List ℕ) (old new : List (Option PairBlock)) → old ≡ pairs_to z last z.hosts
    → new ≡ option_map_or (λ p. merged_with (f p) old) first old → new ≡ pairs_of (layout_of z) (record { kept = option_map_or f first []; last = last })
pairs_are f z None last old new had is = is ∙ had
pairs_are f z (Some p) last old new had is = is ∙ ap (merged_with (f p)) had ∙ merged z (f p) last

-- What a host's places have then, with pairs and without.
pub given_with_pairs : {T : Type 0} (f : T → List (Option PairBlock)) (z : Sizes) (first : Option T) (last : List ℕ) (old new : ReadRoom) → z.paired ≡ true
    → new.pairs ≡ option_map_or (λ p. merged_with (f p) old.pairs) first old.pairs → new.blocks ≡ blocks_of_pairs new.pairs → new.kept ≡ old.kept → HasRead z last old
    → HasGiven z (record { kept = option_map_or f first []; last = last }) new
given_with_pairs f z first last old new paired pairs blocks kept has =
    let q : BlocksRead = record { kept = option_map_or f first []; last = last } in
    let are : new.pairs ≡ pairs_of (layout_of z) q = pairs_are f z first last old.pairs new.pairs (has.pairs paired) pairs in
    let long : length new.pairs ≡ z.hosts = ap length are ∙ length-map-range_with_len (pair_merged (layout_of z) q) 1 z.hosts in
    record {
      places =
          record {
            blocks = ap length blocks ∙ length-map new.pairs (λ p. option_map (λ b. b.block) p) ∙ long;
            pairs = long ∙ sym (ap (λ b. cond b z.hosts 0) paired);
            kept = subst (λ o. IfSome o (λ ps. length ps ≡ z.hosts)) (sym kept) has.places.kept;
          };
      blocks = blocks ∙ ap blocks_of_pairs are
          ∙ sym (ap (λ b. elim b as (λ x. List (Option Block)) [ false ↦ blocks_in (layout_of z) last | true ↦ blocks_of_pairs (pairs_of (layout_of z) q) ]) paired);
      pairs = λ also. are;
    }

pub given_without : (z : Sizes) (first : List (Option PairBlock)) (last : List ℕ) (r : ReadRoom) → z.paired ≡ false → HasRead z last r → HasGiven z (record { kept = first; last = last }) r
given_without z first last r plain has =
    record {
      places = has.places;
      blocks = has.blocks plain ∙ sym (blocks_plain (layout_of z) plain (record { kept = first; last = last }));
      pairs = λ paired. absurd (not_both z.paired paired plain);
    }

merged_long : {T : Type 0} (f : T → List (Option PairBlock)) (first : Option T) (old : List (Option PairBlock)) → length (option_map_or (λ p. merged_with (f p) old) first old) ≡ length old
merged_long f None old = refl
merged_long f (Some p) old = length-map-range_with_len (λ k. later_pair (slice_index_or (f p) k None) (slice_index_or old k None)) 0 (length old)

pub merged_places : {T : Type 0} (f : T → List (Option PairBlock)) (z : Sizes) (first : Option T) (old : ReadRoom) → z.paired ≡ true → HasPlaces z old
    → length old.blocks ≡ length (option_map_or (λ p. merged_with (f p) old.pairs) first old.pairs)
merged_places f z first old paired places =
    places.blocks ∙ sym (places.pairs ∙ ap (λ b. cond b z.hosts 0) paired) ∙ sym (merged_long f first old.pairs)

-- What they have of one read, with pairs and without.
pub has_pairs : (z : Sizes) (bytes : List ℕ) (old new : ReadRoom) → z.paired ≡ true → HasPlaces z old → new.blocks ≡ old.blocks → length new.pairs ≡ z.hosts
    → take z.hosts new.pairs ≡ pairs_to z bytes z.hosts → KeptTo z bytes z.hosts old.kept new.kept → HasRead z bytes new
has_pairs z bytes old new paired places blocks long is kept =
    record {
      places =
          record {
            blocks = ap length blocks ∙ places.blocks;
            pairs = long ∙ sym (ap (λ b. cond b z.hosts 0) paired);
            kept = kept_long old.kept new.kept kept;
          };
      blocks = λ plain. absurd (not_both z.paired paired plain);
      pairs = λ also. whole z.hosts new.pairs (pairs_to z bytes z.hosts) long is;
    } where
      kept_long : (before now : Option (List (Option PairBlock))) → KeptTo z bytes z.hosts before now → IfSome now (λ ps. length ps ≡ z.hosts)
      kept_long None now k = subst (λ o. IfSome o (λ ps. length ps ≡ z.hosts)) (sym k) tt
      kept_long (Some ps) now k = subst (λ o. IfSome o (λ qs. length qs ≡ z.hosts)) (sym k.1) k.2

pub has_blocks : (z : Sizes) (bytes : List ℕ) (old new : ReadRoom) → z.paired ≡ false → HasPlaces z old → new.blocks ≡ blocks_to z bytes z.hosts → new.pairs ≡ old.pairs → new.kept ≡ old.kept
    → HasRead z bytes new
has_blocks z bytes old new plain places blocks pairs kept =
    record {
      places =
          record {
            blocks = ap length blocks ∙ length-map-range_with_len (host_block z bytes) 1 z.hosts;
            pairs = ap length pairs ∙ places.pairs;
            kept = subst (λ o. IfSome o (λ ps. length ps ≡ z.hosts)) (sym kept) places.kept;
          };
      blocks = λ also. blocks;
      pairs = λ paired. absurd (not_both z.paired paired plain);
    }

-- Of the part of all blocks.
pub has_part : (z : Sizes) (bytes : List ℕ) (step : LeaseStep) (skipped : ℕ) (r : ReadRoom) → skipped ≡ cond (is_area_step step) 2 0 → HasRead z (behind z skipped bytes) r
    → HasRead z (part_read (layout_of z) bytes (first_step step)) r
has_part z bytes step skipped r is has = subst (λ bs. HasRead z bs r) (ap (λ n. behind z n bytes) is ∙ sym (part_is z bytes step)) has

-- The leader.
pub leader_is : (z : Sizes) (first : List (Option PairBlock)) (step : LeaseStep) (bytes : List ℕ) (pairs : List (Option PairBlock))
    → (z.paired ≡ true → pairs ≡ pairs_of (layout_of z) (heard_with (layout_of z) first step bytes))
    → cond (is_area_step step) (leader_with z bytes pairs) None ≡ leader_given (layout_of z) first step bytes
leader_is z first step bytes pairs have = at (is_area_step step) ∙ ap (λ x. elim (is_area_step step) as (λ y. Option Leader) [ false ↦ None | true ↦ x ]) (by z.paired refl) where
  q : BlocksRead
  q = heard_with (layout_of z) first step bytes

  at : (b : Bool) → cond b (leader_with z bytes pairs) None ≡ elim b as (λ y. Option Leader) [ false ↦ None | true ↦ leader_with z bytes pairs ]
  at true = refl
  at false = refl

  leader_by : Bool → List (Option PairBlock) → Option Leader
  leader_by b ps =
      elim b as (λ x. Option Leader) [
        | false ↦ leader_of (layout_of z) bytes
        | true ↦ elim (leader_of (layout_of z) bytes) as (λ x. Option Leader) [ Some l ↦ Some l | None ↦ leader_made (layout_of z) (present ps) ]
      ]

  by : (b : Bool) → z.paired ≡ b → leader_by z.paired pairs ≡ leader_by z.paired (pairs_of (layout_of z) q)
  by false plain = ap (λ b. leader_by b pairs) plain ∙ ap (λ b. leader_by b (pairs_of (layout_of z) q)) (sym plain)
  by true paired = ap (leader_by z.paired) (have paired)

-- There is a sector for it.
pub leader_inside : (z : Sizes) (step : LeaseStep) (n : ℕ) → is_area_step step ≡ true → n ≡ sectors_read z step * z.sector → z.sector ≤ n
leader_inside z step n area long =
    let s : ℕ = z.sector in
    let b : ℕ = block_sectors (layout_of z) in
    let many : n ≡ (b + 2) * s = long ∙ ap (λ c. cond c (area_sectors (layout_of z)) b * s) area in
    let least : s * 1 ≤ s * (b + 2) = mul-le-mul_left s (omega arith) in
    let turned : (b + 2) * s ≡ s * (b + 2) = mul_comm (b + 2) s in
    omega (arith, many, least, turned)
