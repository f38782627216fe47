-- Turns of an area with pairs: whoever knows the own block was shown a turn, so the turn that a session writes is one above it.
use Rattle.sl_due_facts.proofs.Acts.Pairs.DecodedRecords.{pair_is_record}
use Rattle.sl_due_facts.proofs.Acts.Pairs.Records.{read_no_turn, written_no_turn, written_turn}
use Rattle.sl_area.specs.AreaSizes.{Layout}
use Rattle.sl_area.specs.Pairs.{BlocksRead, blocks_of, later_pair, needs_again, pair_back, pair_kept, pair_merged, pair_read, pairs_kept, pairs_of, read_once}
use Rattle.sl_area.specs.AreaLayout.{blocks_in, blocks_part}
use Rattle.sl_due_facts.specs.Facts.WayFacts.{WayContext, Ways, WritesBlock}
use Rattle.sl_due_leases.proofs.Ways.NewestCall.{leader_is_no_block, read_writes_no_block, submitted_passed}
use Rattle.sl_due_leases.proofs.Ways.WayNumbers.{Doing, Frees, Reads, Takes, Writes_ballot, Writes_mode, doing}
use Rattle.sl_run.specs.LawfulBlock.{LawfulTurn}
use Rattle.sl_sector.specs.declared.sector.Block.{Block}
use Rattle.sl_sector.specs.declared.sector.PairBlock.{PairBlock}
use Rattle.sl_trace.specs.Leases.{base_turn, block_of_host, block_submitted, blocks_bytes, given_with, is_again, is_area_read, is_block_read, kept_before, last_blocks, own_block, own_or_read, read_given, turn_shown, turn_written, verified_name}
use Rattle.sl_trace.specs.Traces.{Answered, Submitted, bytes_given, gave, is_answered_ok, is_ok_answer}
use Rattle.sl_trace.specs.declared.input.Answer.TheVariants.{Failed, Read, Written}
use Rattle.sl_trace.specs.declared.input.Answer.{Answer}
use Rattle.sl_words.proofs.CaseLaws.{false_is_true, none_some, some_value}
use Rattle.sl_words.proofs.WordLaws.{choose_some}
use Rattle.sl_words.specs.Words.{choose, some_is}
use Rattle.std.proofs.Common.{ap, arith, inl, inr, refl, subst, sym, ◌∙◌}
use Rattle.std.proofs.lemmas.List.FromFn.{get_or-map-range_with_len}
use Rattle.std.proofs.lemmas.Option.{unwrap_or-slice_get}
use Rattle.std.specs.List.{range_with_len}
use Rattle.std.specs.Prelude.{Bool, IsSome, List, None, Option, Some, [], false, if◌then◌else◌, is_some, map, nat_lt, not, option_and_then, option_map, slice_get, true, unwrap_or, ℕ, ◌+◌, ◌-◌, ◌<◌, ◌∷◌, ◌≡◌, ◌≤◌, ◌⊎◌}

-- ---- a turn that was shown stays

one_up : (a n : ℕ) → a + 1 ≡ n → 1 ≤ n
one_up a n is = omega (arith, is)

-- The turn that a block's call writes.
turn_by : (w : WayContext) (ms : List Submitted) (m : Submitted) (b : Block) → WritesBlock w ms m.call b → turn_written m ≡ choose w.layout.paired (base_turn w.layout w.self.id ms + 1)
turn_by w ms m b op = written_turn w.layout (base_turn w.layout w.self.id ms + 1) w.lockspace (verified_name w.layout w.lockspace ms) m b op

-- Only blocks of pairs have one: one above the last.
pub turn_is_next : (w : WayContext) (ms : List Submitted) (m : Submitted) (b : Block) (turn : ℕ) → WritesBlock w ms m.call b → turn_written m ≡ Some turn
    → (w.layout.paired ≡ true) × (turn ≡ base_turn w.layout w.self.id ms + 1)
turn_is_next w ms m b turn op is =
    let both = choose_some w.layout.paired (base_turn w.layout w.self.id ms + 1) turn (sym (turn_by w ms m b op) ∙ is) in (both.0, sym both.1)

none_above : (m : Submitted) (turn : ℕ) → turn_written m ≡ None → turn_written m ≡ Some turn → 1 ≤ turn
none_above m turn none is = absurd (none_some turn (sym none ∙ is))

next_above : (w : WayContext) (ms : List Submitted) (m : Submitted) (b : Block) (turn : ℕ) → WritesBlock w ms m.call b → turn_written m ≡ Some turn → 1 ≤ turn
next_above w ms m b turn op is = one_up (base_turn w.layout w.self.id ms) turn (sym (turn_is_next w ms m b turn op is).1)

written_above : (w : WayContext) (m : Submitted) (ms : List Submitted) → Doing w m ms → (turn : ℕ) → turn_written m ≡ Some turn → 1 ≤ turn
written_above w m ms (Reads n op) turn is = none_above m turn (read_no_turn m n op) is
written_above w m ms (Writes_ballot b op up fresh known) turn is = next_above w ms m b turn op is
written_above w m ms (Writes_mode b own op known same other) turn is = next_above w ms m b turn op is
written_above w m ms (Takes l op held) turn is = none_above m turn (written_no_turn w.layout m l op) is
written_above w m ms (Frees l op free won concluded) turn is = none_above m turn (written_no_turn w.layout m l op) is

abbrev turn_in : Layout → ℕ → List ℕ → Option ℕ
turn_in g id bs = option_map (λ (p : PairBlock). p.turn) (pair_read g bs id)

turn_in_above : (g : Layout) (id : ℕ) (bs : List ℕ) (turn : ℕ) → turn_in g id bs ≡ Some turn → 1 ≤ turn
turn_in_above g id bs turn is = by (pair_read g bs id) refl is where
  by : (o : Option PairBlock) → pair_read g bs id ≡ o → option_map (λ (p : PairBlock). p.turn) o ≡ Some turn → 1 ≤ turn
  by None found at = absurd (none_some turn at)
  by (Some p) found at = subst (λ n. 1 ≤ n) (some_value p.turn turn at) (pair_is_record g bs id p found).0.turn.0

-- Each turn that a call shows is above 0.
shown_above : (w : WayContext) (m : Submitted) (ms : List Submitted) → Doing w m ms → (turn : ℕ) → turn_shown w.layout w.self.id m ≡ Some turn → 1 ≤ turn
shown_above w m ms d turn is = by (turn_written m) refl is where
  read_by : (o : Option (List ℕ)) → option_and_then (turn_in w.layout w.self.id) o ≡ Some turn → 1 ≤ turn
  read_by None at = absurd (none_some turn at)
  read_by (Some bs) at = turn_in_above w.layout w.self.id bs turn at

  paired_by : (q : Bool) → elim q as (λ z. Option ℕ) [ false ↦ None | true ↦ option_and_then (turn_in w.layout w.self.id) (blocks_bytes w.layout m) ] ≡ Some turn → 1 ≤ turn
  paired_by false at = absurd (none_some turn at)
  paired_by true at = read_by (blocks_bytes w.layout m) at

  by : (o : Option ℕ) → turn_written m ≡ o
      → elim o as (λ z. Option ℕ) [
        | Some t ↦ choose (is_answered_ok m) t
        | None ↦ elim w.layout.paired as (λ z. Option ℕ) [ false ↦ None | true ↦ option_and_then (turn_in w.layout w.self.id) (blocks_bytes w.layout m) ]
      ] ≡ Some turn → 1 ≤ turn
  by (Some t) written at = subst (λ n. 1 ≤ n) (choose_some (is_answered_ok m) t turn at).1 (written_above w m ms d t written)
  by None written at = paired_by w.layout.paired at

pub turn_stays : (w : WayContext) (m : Submitted) (ms : List Submitted) → Ways w (m ∷ ms) → 1 ≤ base_turn w.layout w.self.id ms → 1 ≤ base_turn w.layout w.self.id (m ∷ ms)
turn_stays w m ms h before = by (turn_shown w.layout w.self.id m) refl where
  by : (o : Option ℕ) → turn_shown w.layout w.self.id m ≡ o → 1 ≤ elim o as (λ z. ℕ) [ Some t ↦ t | None ↦ base_turn w.layout w.self.id ms ]
  by (Some t) shown = shown_above w m ms (doing w m ms h.1 h.0) t shown
  by None shown = before

-- ---- a read that shows the own block shows a turn

by_answer : (a : Answer) (bytes : List ℕ) → bytes_given a ≡ Some bytes → is_ok_answer a ≡ true
by_answer (Read bs) bytes is = refl
by_answer Written bytes is = absurd (none_some bytes is)
by_answer Failed bytes is = absurd (none_some bytes is)

-- A call that gave bytes was answered ok.
gave_ok : (m : Submitted) (bytes : List ℕ) → gave m ≡ Some bytes → is_answered_ok m ≡ true
gave_ok m bytes is = by m.answer is where
  by : (o : Option Answered) → option_and_then (λ (a : Answered). bytes_given a.answer) o ≡ Some bytes → some_is (λ (a : Answered). is_ok_answer a.answer) o ≡ true
  by None at = absurd (none_some bytes at)
  by (Some a) at = by_answer a.answer bytes at

part_gave : (g : Layout) (m : Submitted) (bs : List ℕ) → blocks_bytes g m ≡ Some bs → (bytes : List ℕ) × (gave m ≡ Some bytes)
part_gave g m bs is = by (gave m) refl is where
  by : (o : Option (List ℕ)) → gave m ≡ o
      → elim o as (λ z. Option (List ℕ)) [ None ↦ None | Some bytes ↦ elim (is_area_read m) as (λ z. Option (List ℕ)) [ true ↦ Some (blocks_part g bytes) | false ↦ choose (is_block_read m) bytes ] ] ≡ Some bs
      → (bytes : List ℕ) × (gave m ≡ Some bytes)
  by None found at = absurd (none_some bs at)
  by (Some bytes) found at = (bytes, found)

-- The turn that a call shows, by the one that it writes.
abbrev shown_by : Layout → ℕ → Submitted → Option ℕ → Option ℕ
shown_by g id m o =
    elim o as (λ z. Option ℕ) [
      | Some t ↦ choose (is_answered_ok m) t
      | None ↦ elim g.paired as (λ z. Option ℕ) [ false ↦ None | true ↦ option_and_then (turn_in g id) (blocks_bytes g m) ]
    ]

-- A call in whose answer the own pair has a block.
read_shows : (w : WayContext) → w.layout.paired ≡ true → (m : Submitted) (ms : List Submitted) → Ways w (m ∷ ms) → (bs : List ℕ) → blocks_bytes w.layout m ≡ Some bs
    → (p : PairBlock) → pair_read w.layout bs w.self.id ≡ Some p → 1 ≤ base_turn w.layout w.self.id (m ∷ ms)
read_shows w paired m ms h bs given p found = by (turn_written m) refl where
  shows : (turn : ℕ) → turn_shown w.layout w.self.id m ≡ Some turn → 1 ≤ base_turn w.layout w.self.id (m ∷ ms)
  shows turn shown =
      subst (λ n. 1 ≤ n) (sym (ap (λ o. elim o as (λ z. ℕ) [ Some t ↦ t | None ↦ base_turn w.layout w.self.id ms ]) shown)) (shown_above w m ms (doing w m ms h.1 h.0) turn shown)

  by : (o : Option ℕ) → turn_written m ≡ o → 1 ≤ base_turn w.layout w.self.id (m ∷ ms)
  by (Some t) written = let g = part_gave w.layout m bs given in shows t (ap (shown_by w.layout w.self.id m) written ∙ ap (λ b. choose b t) (gave_ok m g.0 g.1))
  by None written =
      shows p.turn
      (ap (shown_by w.layout w.self.id m) written
      ∙ (ap (λ q. elim q as (λ z. Option ℕ) [ false ↦ None | true ↦ option_and_then (turn_in w.layout w.self.id) (blocks_bytes w.layout m) ]) paired
      ∙ (ap (λ o. option_and_then (turn_in w.layout w.self.id) o) given ∙ ap (λ o. option_map (λ (q : PairBlock). q.turn) o) found)))

-- ---- the own pair among those of all hosts

-- The later one is one of the two.
later_either : (a b : Option PairBlock) (p : PairBlock) → later_pair a b ≡ Some p → (a ≡ Some p) ⊎ (b ≡ Some p)
later_either None b p is = inr is
later_either (Some a) None p is = inl is
later_either (Some a) (Some b) p is = by (nat_lt b.turn a.turn) is where
  by : (t : Bool) → (if t then Some a else Some b) ≡ Some p → (Some a ≡ Some p) ⊎ (Some b ≡ Some p)
  by true at = inl at
  by false at = inr at

abbrev block_of_pair : Option PairBlock → Option Block
block_of_pair p = option_map (λ (q : PairBlock). q.block) p

-- The blocks of hosts, by those of their pairs.
blocks_by : (g : Layout) → g.paired ≡ true → (r : BlocksRead) → blocks_of g r ≡ map block_of_pair (pairs_of g r)
blocks_by g paired r = ap (λ q. elim q as (λ z. List (Option Block)) [ false ↦ blocks_in g r.last | true ↦ map block_of_pair (pairs_of g r) ]) paired

below_by : (id hosts : ℕ) → 1 ≤ id → id ≤ hosts → id - 1 < hosts
below_by id hosts low high = omega (arith, low, high)

up_again : (id : ℕ) → 1 ≤ id → 1 + (id - 1) ≡ id
up_again id low = omega (arith, low)

-- A host's among values of all hosts.
pub of_host : {A : Type 0} (f : ℕ → Option A) (hosts id : ℕ) → 1 ≤ id → id ≤ hosts → unwrap_or (slice_get (map f (range_with_len 1 hosts)) (id - 1)) None ≡ f id
of_host {A} f hosts id low high =
    unwrap_or-slice_get (map f (range_with_len 1 hosts)) (id - 1) None ∙ get_or-map-range_with_len f 1 hosts (id - 1) id None (below_by id hosts low high) (up_again id low)

mapped_twice : (f : ℕ → Option PairBlock) (ns : List ℕ) → map block_of_pair (map f ns) ≡ map (λ n. block_of_pair (f n)) ns
mapped_twice f [] = refl
mapped_twice f (n ∷ ns) = ap (λ xs. block_of_pair (f n) ∷ xs) (mapped_twice f ns)

-- With pairs a host's block that was read is that of its pair.
pub merged_of : (g : Layout) → g.paired ≡ true → (r : BlocksRead) (id : ℕ) → 1 ≤ id → id ≤ g.hosts → block_of_host (blocks_of g r) id ≡ block_of_pair (pair_merged g r id)
merged_of g paired r id low high =
    ap (λ xs. block_of_host xs id) (blocks_by g paired r ∙ mapped_twice (pair_merged g r) (range_with_len 1 g.hosts)) ∙ of_host (λ n. block_of_pair (pair_merged g r n)) g.hosts id low high

pair_there : (o : Option PairBlock) (b : Block) → block_of_pair o ≡ Some b → (p : PairBlock) × (o ≡ Some p)
pair_there None b is = absurd (none_some b is)
pair_there (Some p) b is = (p, refl)

none_kept : (k : ℕ) (p : PairBlock) → unwrap_or (slice_get {X = Option PairBlock} [] k) None ≡ Some p → ⊥
none_kept k p is = none_some p (sym (unwrap_or-slice_get {X = Option PairBlock} [] k None) ∙ is)

kept_read : (g : Layout) (bs : List ℕ) (id : ℕ) (p : PairBlock) → pair_kept g bs id ≡ Some p → pair_read g bs id ≡ Some p
kept_read g bs id p is = by (pair_back g bs id) is where
  by : (o : Option PairBlock) → elim o as (λ z. Option PairBlock) [ None ↦ None | Some q ↦ pair_read g bs id ] ≡ Some p → pair_read g bs id ≡ Some p
  by None at = absurd (none_some p at)
  by (Some q) at = at

-- ---- whoever knows the own block was shown a turn

-- A host's id.
abbrev IsHostOf : WayContext → Type 0
IsHostOf w = (1 ≤ w.self.id) × (w.self.id ≤ w.layout.hosts)

-- Where a first answer was kept whose own pair has a block.
kept_shows : (w : WayContext) → IsHostOf w → w.layout.paired ≡ true → (ms : List Submitted) → Ways w ms → (pairs : List (Option PairBlock)) → kept_before w.layout ms ≡ Some pairs → (p : PairBlock)
    → unwrap_or (slice_get pairs (w.self.id - 1)) None ≡ Some p → 1 ≤ base_turn w.layout w.self.id ms
kept_shows w host paired [] h pairs kept p is = absurd (none_some pairs kept)
kept_shows w host paired (m ∷ ms) h pairs kept p is = by (blocks_bytes w.layout m) refl kept where
  by : (o : Option (List ℕ)) → blocks_bytes w.layout m ≡ o → option_map (pairs_kept w.layout) o ≡ Some pairs → 1 ≤ base_turn w.layout w.self.id (m ∷ ms)
  by None given at = absurd (none_some pairs at)
  by (Some bs) given at =
      let same : pairs_kept w.layout bs ≡ pairs = some_value (pairs_kept w.layout bs) pairs at in
      let there : pair_kept w.layout bs w.self.id ≡ Some p =
      sym (of_host (pair_kept w.layout bs) w.layout.hosts w.self.id host.0 host.1) ∙ (ap (λ xs. unwrap_or (slice_get xs (w.self.id - 1)) None) same ∙ is)
      in
      read_shows w paired m ms h bs given p (kept_read w.layout bs w.self.id p there)

given_shows : (w : WayContext) → IsHostOf w → w.layout.paired ≡ true → (m : Submitted) (ms : List Submitted) → Ways w (m ∷ ms) → (r : BlocksRead) → read_given w.layout m ms ≡ Some r → (b : Block)
    → block_of_host (blocks_of w.layout r) w.self.id ≡ Some b → 1 ≤ base_turn w.layout w.self.id (m ∷ ms)
given_shows w host paired m ms h r given b is = by (blocks_bytes w.layout m) refl (is_again m) (kept_before w.layout ms) refl given where
  merged : (p : PairBlock) × (pair_merged w.layout r w.self.id ≡ Some p)
  merged = pair_there (pair_merged w.layout r w.self.id) b (sym (merged_of w.layout paired r w.self.id host.0 host.1) ∙ is)

  one_of : (kept : List (Option PairBlock)) (last : List ℕ) → record { kept = kept; last = last } ≡ r
      → (unwrap_or (slice_get kept (w.self.id - 1)) None ≡ Some merged.0) ⊎ (pair_read w.layout last w.self.id ≡ Some merged.0)
  one_of kept last same =
      later_either (unwrap_or (slice_get kept (w.self.id - 1)) None) (pair_read w.layout last w.self.id) merged.0 (ap (λ z. pair_merged w.layout z w.self.id) same ∙ merged.1)

  once : (last : List ℕ) → blocks_bytes w.layout m ≡ Some last → (b : Bool) → choose b (read_once last) ≡ Some r → 1 ≤ base_turn w.layout w.self.id (m ∷ ms)
  once last bytes false at = absurd (none_some r at)
  once last bytes true at =
      elim (one_of [] last (some_value (read_once last) r at)) [
        | inl kept ↦ absurd (none_kept (w.self.id - 1) merged.0 kept)
        | inr shown ↦ read_shows w paired m ms h last bytes merged.0 shown
      ]

  by : (o : Option (List ℕ)) → blocks_bytes w.layout m ≡ o → (again : Bool) (k : Option (List (Option PairBlock))) → kept_before w.layout ms ≡ k → given_with w.layout again k o ≡ Some r
      → 1 ≤ base_turn w.layout w.self.id (m ∷ ms)
  by None bytes again k kept at = absurd (none_some r at)
  by (Some last) bytes false k kept at = once last bytes (not (needs_again w.layout last)) at
  by (Some last) bytes true None kept at = absurd (none_some r at)
  by (Some last) bytes true (Some pairs) kept at =
      elim (one_of pairs last (some_value (record { kept = pairs; last = last }) r at)) [
        | inl first ↦ turn_stays w m ms h (kept_shows w host paired ms h.1 pairs kept merged.0 first)
        | inr shown ↦ read_shows w paired m ms h last bytes merged.0 shown
      ]

read_seen : (w : WayContext) → IsHostOf w → w.layout.paired ≡ true → (ms : List Submitted) → Ways w ms → (b : Block) → block_of_host (last_blocks w.layout ms) w.self.id ≡ Some b → 1 ≤ base_turn w.layout w.self.id ms
read_seen w host paired [] h b is = absurd (none_some b (sym (unwrap_or-slice_get {X = Option Block} [] (w.self.id - 1) None) ∙ is))
read_seen w host paired (m ∷ ms) h b is = by (read_given w.layout m ms) refl is (λ at. turn_stays w m ms h (read_seen w host paired ms h.1 b at)) where
  by : (o : Option BlocksRead) → read_given w.layout m ms ≡ o → block_of_host (elim (option_map (blocks_of w.layout) o) as (λ z. List (Option Block)) [ Some bs ↦ bs | None ↦ last_blocks w.layout ms ]) w.self.id ≡ Some b
      → (block_of_host (last_blocks w.layout ms) w.self.id ≡ Some b → 1 ≤ base_turn w.layout w.self.id (m ∷ ms)) → 1 ≤ base_turn w.layout w.self.id (m ∷ ms)
  by (Some r) given at before = given_shows w host paired m ms h r given b at
  by None given at before = before at

-- The own block is the one that was submitted last, else the one that was read last.
known_by : (w : WayContext) → IsHostOf w → w.layout.paired ≡ true → (ms : List Submitted) → Ways w ms → ((b : Block) → block_submitted ms ≡ Some b → 1 ≤ base_turn w.layout w.self.id ms)
    → IsSome (own_block w.layout w.self.id ms) → 1 ≤ base_turn w.layout w.self.id ms
known_by w host paired ms h before known = by (block_submitted ms) refl known where
  read_by : (o : Option Block) → block_of_host (last_blocks w.layout ms) w.self.id ≡ o → is_some o ≡ true → 1 ≤ base_turn w.layout w.self.id ms
  read_by None found at = absurd (false_is_true at)
  read_by (Some b) found at = read_seen w host paired ms h b found

  by : (o : Option Block) → block_submitted ms ≡ o → is_some (own_or_read w.self.id o (last_blocks w.layout ms)) ≡ true → 1 ≤ base_turn w.layout w.self.id ms
  by (Some b) is at = before b is
  by None is at = read_by (block_of_host (last_blocks w.layout ms) w.self.id) refl at

-- From the first block that is written on.
submitted_seen : (w : WayContext) → IsHostOf w → w.layout.paired ≡ true → (ms : List Submitted) → Ways w ms → (b : Block) → block_submitted ms ≡ Some b → 1 ≤ base_turn w.layout w.self.id ms
submitted_seen w host paired [] h b is = absurd (none_some b is)
submitted_seen w host paired (m ∷ ms) h b is = turn_stays w m ms h (by (doing w m ms h.1 h.0) (λ x old. submitted_seen w host paired ms h.1 x old)) where
  by : Doing w m ms → ((x : Block) → block_submitted ms ≡ Some x → 1 ≤ base_turn w.layout w.self.id ms) → 1 ≤ base_turn w.layout w.self.id ms
  by (Reads n op) before = before b (sym (submitted_passed m ms (read_writes_no_block m n op)) ∙ is)
  by (Writes_ballot x op up fresh (inl begun)) before = known_by w host paired ms h.1 before begun.1
  by (Writes_ballot x op up fresh (inr old)) before = before old.0 old.1
  by (Writes_mode x own op known same other) before = before own known
  by (Takes l op held) before = before b (sym (submitted_passed m ms (leader_is_no_block w m l op)) ∙ is)
  by (Frees l op free won concluded) before = before b (sym (submitted_passed m ms (leader_is_no_block w m l op)) ∙ is)

pub turns_are_seen : (w : WayContext) → IsHostOf w → w.layout.paired ≡ true → (ms : List Submitted) → Ways w ms → IsSome (own_block w.layout w.self.id ms) → 1 ≤ base_turn w.layout w.self.id ms
turns_are_seen w host paired ms h known = known_by w host paired ms h (λ b is. submitted_seen w host paired ms h b is) known

-- So the turn of a block that is written next is lawful.
pub turn_is_lawful : (w : WayContext) → IsHostOf w → (ms : List Submitted) → Ways w ms → IsSome (own_block w.layout w.self.id ms) → (c : Submitted) (b : Block) → WritesBlock w ms c.call b → (turn : ℕ)
    → turn_written c ≡ Some turn → LawfulTurn turn (base_turn w.layout w.self.id ms)
turn_is_lawful w host ms h known c b op turn is =
    record {
      next = (turn_is_next w ms c b turn op is).1;
      seen = turns_are_seen w host (turn_is_next w ms c b turn op is).0 ms h known;
    }
