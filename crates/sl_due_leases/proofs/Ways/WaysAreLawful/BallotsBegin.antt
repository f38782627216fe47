-- Why a ballot may begin: after a read of the area, after one that was lost to an owner who is over, or where it is still open.
use Rattle.sl_run.specs.LawfulBlock.{AreaRead, BeginReason, Block_above, Freed_before, Leader_before, Leader_own, LawfulPhase1, Lost_before, Own_block}
use Rattle.sl_due_leases.proofs.Ways.GreatestFrees.{freed_among, greatest_among}
use Rattle.sl_due_leases.proofs.Ways.InstancesBegin.{not_below_own, own_below_top, why_instance}
use Rattle.sl_due_leases.proofs.Ways.WaysAreLawful.BallotLaws.{own_is}
use Rattle.sl_due_leases.proofs.Ways.WayNumbers.{IsOpened, freed_below, lver_of, own_lver}
use Rattle.sl_due_leases.specs.Ways.Instances.{Block_leads, One_is_done, Own_goes_on, WhyInstance}
use Rattle.sl_trace.specs.Ballots.{counted_lver, is_counted_free, owner_of, phase1_block, same_owner, value_of}
use Rattle.sl_trace.specs.Leases.{block_submitted, ended_ballots, freed, instance_for, is_over_owner, known, last_blocks, lease_calls, own_block, top_lver}
use Rattle.sl_trace.specs.declared.lease.Instance.TheVariants.{Begins}
use Rattle.sl_sector.specs.declared.sector.Block.{Block}
use Rattle.sl_sector.specs.declared.sector.Leader.{Leader}
use Rattle.sl_trace.specs.Sessions.{me}
use Rattle.sl_trace.specs.Sightings.{counted_over, counts_over}
use Rattle.sl_trace.specs.declared.session.Session.{Session}
use Rattle.sl_due_facts.specs.Facts.WayFacts.{Ways, way_context}
use Rattle.sl_trace.specs.Traces.{Setting, Submitted, Trace}
use Rattle.sl_trace.specs.declared.effects.Spot.{Spot}
use Rattle.sl_words.proofs.CaseLaws.{false_is_true, true_is_false}
use Rattle.sl_words.proofs.ListLaws.{greatest-cons}
use Rattle.sl_words.proofs.OptionLaws.{cond_none}
use Rattle.sl_words.proofs.WordLaws.{or_true}
use Rattle.sl_words.specs.Words.{greatest, present}
use Rattle.std.proofs.Common.{ap, arith, inl, inr, refl, sym, tests, ◌∙◌}
use Rattle.std.proofs.lemmas.Bool.{cases_lt}
use Rattle.std.specs.List.{list_all, prefix_len}
use Rattle.std.specs.Prelude.{Bool, Contains, List, None, Option, Some, [], false, filter, if◌then◌else◌, is_none, is_some, length, map, max, nat_le, nat_lt, not, position, suc, true, zero, ℕ, ◌&&◌, ◌+◌, ◌<◌, ◌==◌, ◌||◌, ◌∷◌, ◌≡◌, ◌≤◌, ◌⊎◌}

-- ---- words on tests

not_true : (b : Bool) → not b ≡ true → b ≡ false
not_true true h = absurd (false_is_true h)
not_true false h = refl

is_kept : (b rest : Bool) → (not b || rest) ≡ false → (b ≡ true) × (rest ≡ false)
is_kept true rest h = (refl, h)
is_kept false rest h = absurd (true_is_false h)

freed_at : (freed lver : ℕ) → (nat_lt 0 freed && nat_le lver freed) ≡ true → (0 < freed) × (lver ≤ freed)
freed_at freed lver h = (grind (arith, tests), grind (arith, tests))

unfreed : (freed lver : ℕ) → (nat_lt 0 freed && nat_le lver freed) ≡ false → max lver freed ≡ lver
unfreed freed lver h = grind (arith, tests)

held_over : (held over : Bool) → elim held as (λ x. Bool) [ false ↦ false | true ↦ over ] ≡ true → over ≡ true
held_over true over h = h
held_over false over h = absurd (false_is_true h)

apart : (freed lver n : ℕ) → 1 ≤ lver → (nat_lt 0 freed && nat_le lver freed) ≡ false → n ≡ max lver freed → freed < n
apart freed lver n one none is = grind (arith, tests)

positive : (lver : ℕ) (held : Bool) → held ≡ true → (lver ≡ 0 → held ≡ false) → 1 ≤ lver
positive zero held is unused = absurd (true_is_false (sym is ∙ unused refl))
positive (suc n) held is unused = omega arith

-- Whom the session counts as over now, it has counted so.
pub counted_now : (st : Setting) (t : Trace) (s : Session) (j n : ℕ) → counts_over st t s j n ≡ true → counted_over st t s j n ≡ true
counted_now st [] s j n h = h
counted_now st (e ∷ es) s j n h = ap (λ b. elim b as (λ x. Bool) [ true ↦ true | false ↦ counted_over st es s j n ]) h

-- ---- why the instance begins

-- A read of the area with the own block of then.
record Looked (st : Setting) (t : Trace) (s : Session) (at : Spot) : Type 0 where
  read : AreaRead st t s at
  own : Block
  known : own_block st.layout s.id (lease_calls st t s at) ≡ Some own

abbrev freed_here : Setting → Trace → Session → Spot → ℕ
freed_here st t s at = freed (lease_calls st t s at)

freed_reason : (st : Setting) (t : Trace) (s : Session) (at : Spot) (a : AreaRead st t s at) (n : ℕ) → 0 < freed_here st t s at → a.leader.lver < n → freed_here st t s at + 1 ≡ n → BeginReason st t s at n
freed_reason st t s at a n pos below is = let w = freed_among (lease_calls st t s at) pos in Freed_before a below w.0 w.1 (freed_here st t s at) w.2 is

leads_reason : (st : Setting) (t : Trace) (s : Session) (at : Spot) (l : Looked st t s at) (n : ℕ) → l.read.leader.lver < n → n ≡ top_lver l.own l.read.blocks → BeginReason st t s at n
leads_reason st t s at l n above is =
    let a : AreaRead st t s at = l.read in
    let own : Block = l.own in
    let read : List Block = present a.blocks in
    let others : ℕ = greatest (map (λ (b : Block). b.lver) (filter (λ (b : Block). not (b.host == own.host)) read)) in
    let top : n ≡ max own.lver others = is ∙ greatest-cons own.lver (map (λ (b : Block). b.lver) (filter (λ (b : Block). not (b.host == own.host)) read)) in
    elim (cases_lt own.lver others) [
      | inl lt ↦
          let b = greatest_among (λ (b : Block). not (b.host == own.host)) read (omega (arith, lt)) in
          Block_above a above b.0 b.1 (b.2 ∙ omega (arith, lt, top))
      | inr le ↦ Own_block own l.known (omega (arith, le, top)) (omega (arith, above))
    ]

done_reason : (st : Setting) (t : Trace) (s : Session) (at : Spot) (a : AreaRead st t s at) (n : ℕ) → n ≡ max a.leader.lver (freed_here st t s at) + 1
    → (is_counted_free a.leader (freed_here st t s at) ≡ true) ⊎ (is_over_owner (known st t s at) a.leader ≡ true) → freed_here st t s at ≤ a.leader.lver → BeginReason st t s at n
unfolding known
done_reason st t s at a n is (inr over) le =
    Leader_before a (omega (arith, is, le)) (inr (counted_now st t s a.leader.owner a.leader.generation (held_over a.leader.held (counts_over st t s a.leader.owner a.leader.generation) over)))
done_reason st t s at a n is (inl free) le =
    elim (or_true (not a.leader.held) (nat_lt 0 (freed_here st t s at) && nat_le a.leader.lver (freed_here st t s at)) free) [
      | inl not_held ↦ Leader_before a (omega (arith, is, le)) (inl (not_true a.leader.held not_held))
      | inr freed_it ↦
          let f = freed_at (freed_here st t s at) a.leader.lver freed_it in
          freed_reason st t s at a n f.0 (omega (arith, is, le)) (omega (arith, is, le, f.1))
    ]

abbrev Why : (st : Setting) (t : Trace) (s : Session) (at : Spot) → Looked st t s at → ℕ → Type 0
Why st t s at l n =
    WhyInstance (is_counted_free l.read.leader (freed_here st t s at)) (is_over_owner (known st t s at) l.read.leader) (same_owner (owner_of l.read.leader) (me t s))
    (counted_lver l.read.leader (freed_here st t s at)) (top_lver l.own l.read.blocks) n

area_reason : (st : Setting) (t : Trace) (s : Session) (at : Spot) (l : Looked st t s at) (n : ℕ) → Why st t s at l n → BeginReason st t s at n
area_reason st t s at l n (Block_leads above is) = leads_reason st t s at l n (omega (arith, above, is)) is
area_reason st t s at l n (One_is_done ge why is) =
    elim (cases_lt l.read.leader.lver (freed_here st t s at)) [
      | inl lt ↦ freed_reason st t s at l.read n (omega (arith, lt)) (omega (arith, lt, is)) (omega (arith, lt, is))
      | inr le ↦ done_reason st t s at l.read n is why le
    ]
area_reason st t s at l n (Own_goes_on ge kept owned is) =
    let held = is_kept l.read.leader.held (nat_lt 0 (freed_here st t s at) && nat_le l.read.leader.lver (freed_here st t s at)) kept in
    Leader_own l.read (sym (unfreed (freed_here st t s at) l.read.leader.lver held.1) ∙ sym is) held.0 owned

above_freed : (free over owned : Bool) (l : Leader) (freed top n : ℕ) → (l.lver ≡ 0 → l.held ≡ false) → is_counted_free l freed ≡ free → WhyInstance free over owned (counted_lver l freed) top n → freed < n
above_freed free over owned l freed top n unused kept (Block_leads above is) = omega (arith, above, is)
above_freed free over owned l freed top n unused kept (One_is_done ge why is) = omega (arith, is)
above_freed free over owned l freed top n unused kept (Own_goes_on ge not_free own is) =
    let held = is_kept l.held (nat_lt 0 freed && nat_le l.lver freed) (kept ∙ not_free) in
    apart freed l.lver n (positive l.lver l.held held.0 unused) held.1 is

-- ---- no block is torn

longer : (a b : ℕ) → nat_lt (1 + a) (suc b) ≡ false → nat_lt a b ≡ false
longer a b h = grind (arith, tests)

not_empty : (b : ℕ) → nat_lt zero (suc b) ≡ false → ⊥
not_empty b h = grind (arith, tests)

whole_at : (o : Option Block) (xs : List (Option Block)) (t : Bool) → not (is_none o) ≡ t
    → nat_lt (if t then 1 + prefix_len (λ o. not (is_none o)) xs else zero) (suc (length xs)) ≡ false
    → (nat_lt (prefix_len (λ o. not (is_none o)) xs) (length xs) ≡ false → list_all is_some xs ≡ true) → (is_some o && list_all is_some xs) ≡ true
whole_at None xs true is h rest = absurd (false_is_true is)
whole_at (Some b) xs true is h rest = rest (longer (prefix_len (λ o. not (is_none o)) xs) (length xs) h)
whole_at o xs false is h rest = absurd (not_empty (length xs) h)

all_whole : (xs : List (Option Block)) → nat_lt (prefix_len (λ o. not (is_none o)) xs) (length xs) ≡ false → list_all is_some xs ≡ true
all_whole [] h = refl
all_whole (o ∷ xs) h = whole_at o xs (not (is_none o)) refl h (all_whole xs)

-- No block is torn.
pub none_torn : (read : List (Option Block)) → position is_none read ≡ None → list_all is_some read ≡ true
none_torn read h = all_whole read (cond_none (nat_lt (prefix_len (λ o. not (is_none o)) read) (length read)) (prefix_len (λ o. not (is_none o)) read) h)

-- ---- a ballot begins

-- What the law asks of a ballot in n beside its block.
pub record MayBegin (st : Setting) (t : Trace) (s : Session) (at : Spot) (n : ℕ) (own : Block) : Type 0 where
  pub known : own_block st.layout s.id (lease_calls st t s at) ≡ Some own
  pub reason : BeginReason st t s at n
  pub not_below : own.lver ≤ n
  pub not_freed : freed (lease_calls st t s at) < n

-- After this read of the area.
pub begins_after_read : (st : Setting) (t : Trace) (s : Session) (at : Spot) (a : AreaRead st t s at) → (a.leader.lver ≡ 0 → a.leader.held ≡ false) → (own : Block) → own_block st.layout s.id (lease_calls st t s at) ≡ Some own
    → (n : ℕ) → instance_for (known st t s at) a.leader own a.blocks ≡ Begins n → MayBegin st t s at n own
unfolding known
begins_after_read st t s at a unused own is n begins =
    let looked : Looked st t s at = record { read = a; own = own; known = is } in
    let why : Why st t s at looked n = why_instance (known st t s at) a.leader own a.blocks n begins in
    record {
      known = is;
      reason = area_reason st t s at looked n why;
      not_below =
          not_below_own (is_counted_free a.leader (freed_here st t s at)) (is_over_owner (known st t s at) a.leader) (same_owner (owner_of a.leader) (me t s))
          (counted_lver a.leader (freed_here st t s at)) (top_lver own a.blocks) n own.lver (own_below_top own a.blocks) why;
      not_freed =
          above_freed (is_counted_free a.leader (freed_here st t s at)) (is_over_owner (known st t s at) a.leader) (same_owner (owner_of a.leader) (me t s)) a.leader
          (freed_here st t s at) (top_lver own a.blocks) n unused refl why;
    }

most : (a b : ℕ) → a ≡ b → a ≤ b
most a b is = omega (arith, is)

one_most : (a b : ℕ) → a < b → 1 ≤ b
one_most a b lt = omega (arith, lt)

-- Where it is open.
pub begins_again : (st : Setting) (t : Trace) (s : Session) (at : Spot) (n : ℕ) → (o : IsOpened (lease_calls st t s at) n) → MayBegin st t s at n o.own
begins_again st t s at n o =
    record {
      known = own_is st t s at o.own o.known;
      reason = Own_block o.own (own_is st t s at o.own o.known) o.under (one_most (freed (lease_calls st t s at)) n o.fresh);
      not_below = most o.own.lver n o.under;
      not_freed = o.fresh;
    }

next_up : (a b c : ℕ) → a ≤ b → b ≡ c → a < c + 1
next_up a b c le is = omega (arith, le, is)

-- Where the one before ended with another who is over.
pub begins_after_loss : (st : Setting) (t : Trace) (s : Session) (at : Spot) → Ways (way_context st t s) (lease_calls st t s at) → (own : Block) → block_submitted (lease_calls st t s at) ≡ Some own
    → Contains (ended_ballots st.layout (lease_calls st t s at)) (own.lver, value_of own) → counts_over st t s own.inp own.inp_gen ≡ true → MayBegin st t s at (own.lver + 1) own
begins_after_loss st t s at ws own is ended over =
    record {
      known = own_is st t s at own is;
      reason = Lost_before (value_of own) own.lver ended refl (counted_now st t s own.inp own.inp_gen over);
      not_below = omega arith;
      not_freed = next_up (freed (lease_calls st t s at)) (own_lver (lease_calls st t s at)) own.lver (freed_below (way_context st t s) (lease_calls st t s at) ws) (lver_of (lease_calls st t s at) own is);
    }

-- Its block.
pub phase1_is_lawful : (st : Setting) (t : Trace) (s : Session) (at : Spot) (n : ℕ) (own : Block) (shared : Bool) (gen : ℕ) → MayBegin st t s at n own → (c : Submitted)
    → LawfulPhase1 st t s at c (phase1_block (me t s) st.layout.hosts n shared gen own (present (last_blocks st.layout (lease_calls st t s at))))
unfolding phase1_block
phase1_is_lawful st t s at n own shared gen h c =
    record { reason = h.reason; own = own; known = h.known; not_below = h.not_below; not_freed = h.not_freed; written = refl }
