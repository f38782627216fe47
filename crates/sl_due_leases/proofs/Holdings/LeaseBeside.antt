-- What a settling does beside an exclusive holding: it clears a mode, or frees an instance below.
use Rattle.sl_due_facts.proofs.Acts.Pairs.Decisions.{asked_is, bytes_are}
use Rattle.sl_area.specs.AreaSizes.{Layout}
use Rattle.sl_area.specs.Pairs.{blocks_of}
use Rattle.sl_area.specs.TornLeader.{leader_read}
use Rattle.sl_due_leases.proofs.Holdings.HoldingsByEffects.{HoldsAt}
use Rattle.sl_due_leases.proofs.Holdings.PlainPlaces.{one_place}
use Rattle.sl_due_leases.proofs.Ways.WayStages.{read_step}
use Rattle.sl_trace.specs.Ballots.{moded_block, same_owner}
use Rattle.sl_trace.specs.LeaseDecisions.{LeasePlace, after_read, after_write, first_step, heard, leader_for, lease_next, settle_next, settle_owed, step_of_read}
use Rattle.sl_trace.specs.Leases.{LeaseKnown, ended_ballot, ended_ballots, exclusive_on, free_left, holdings_on, known, lease_calls, owed_free, settles_free, won_by}
use Rattle.sl_trace.specs.declared.lease.Aim.TheVariants.{Settles}
use Rattle.sl_trace.specs.declared.lease.LeaseNext.TheVariants.{BecomeExclusive, BecomeShared, GrantJob, Nothing, ReadFor, WriteBlock, WriteLeader}
use Rattle.sl_trace.specs.declared.lease.LeaseNext.{LeaseNext}
use Rattle.sl_trace.specs.declared.lease.Owed.TheVariants.{BallotOwed, FreeOwed, ModeOwed}
use Rattle.sl_trace.specs.declared.lease.Owed.{Owed}
use Rattle.sl_words.proofs.Lists.{contains_first, contains_more, find_fails, find_inside, kept, kept_inside}
use Rattle.sl_words.proofs.Numbers.{number_itself}
use Rattle.sl_words.proofs.Options.{then_value}
use Rattle.sl_sector.specs.declared.sector.Block.{Block}
use Rattle.sl_sector.specs.declared.sector.Leader.{Leader}
use Rattle.sl_sector.specs.declared.sector.Owner.{Owner}
use Rattle.sl_trace.specs.Sessions.{holdings_of, me}
use Rattle.sl_trace.specs.declared.session.Session.{Session}
use Rattle.sl_due_facts.specs.Facts.HeardCall.{heard_by}
use Rattle.sl_due_facts.specs.Facts.HoldingFacts.{StandsExclusive}
use Rattle.sl_due.specs.Steps.{Step, seen}
use Rattle.sl_trace.specs.Traces.{Submitted, holdings, is_heeded, is_shared, same_place, spot_of_grant}
use Rattle.sl_trace.specs.declared.effects.Grant.{Grant}
use Rattle.sl_trace.specs.declared.effects.LeaseRead.TheVariants.{OfArea, OfBlock, OfFree, OfPhase1, OfPhase2}
use Rattle.sl_trace.specs.declared.effects.LeaseRead.{LeaseRead}
use Rattle.sl_trace.specs.declared.effects.LeaseStep.TheVariants.{ClearMode, FreeLeader, Phase1Read, Phase1Write, Phase2Read, Phase2Write, ReadAgain, ReadArea, ReadBeforeBlock, ReadBeforeFree, SetMode, TakeLeader}
use Rattle.sl_trace.specs.declared.effects.LeaseStep.{LeaseStep}
use Rattle.sl_trace.specs.declared.input.Answer.TheVariants.{Failed, Read, Written}
use Rattle.sl_trace.specs.declared.input.Answer.{Answer}
use Rattle.sl_words.proofs.CaseLaws.{false_is_true, none_some, not_both, some_value, true_is_false}
use Rattle.sl_words.proofs.OrderLaws.{less_or_same}
use Rattle.sl_words.proofs.WordLaws.{choose_some}
use Rattle.sl_words.specs.Words.{choose, some_is}
use Rattle.std.proofs.Common.{ap, inl, inr, refl, subst, sym, ◌∙◌}
use Rattle.std.specs.Option.{option_map_or}
use Rattle.std.specs.Prelude.{Bool, Contains, List, None, Option, Some, [], false, not, option_and_then, option_map, true, ℕ, ◌&&◌, ◌<◌, ◌==◌, ◌∷◌, ◌≡◌, ◌≤◌, ◌⊎◌}

-- ---- steps of a ballot

abbrev pub is_ballot_step : LeaseStep → Bool
is_ballot_step (ReadArea name) = true
is_ballot_step Phase1Write = true
is_ballot_step Phase1Read = true
is_ballot_step Phase2Write = true
is_ballot_step Phase2Read = true
is_ballot_step (ReadAgain (OfArea name)) = true
is_ballot_step (ReadAgain OfPhase1) = true
is_ballot_step (ReadAgain OfPhase2) = true
is_ballot_step step = false

-- What is done beside an exclusive holding of n, where this block was written last.
abbrev pub DoesBeside : Block → ℕ → LeaseNext → Type 0
DoesBeside own n (ReadFor step) = is_ballot_step step ≡ false
DoesBeside own n (WriteBlock step b) = (is_ballot_step step ≡ false) × (b.lver ≡ n) × (b.mbal ≡ own.mbal)
DoesBeside own n (WriteLeader step l) = (is_ballot_step step ≡ false) × (l.held ≡ false → l.lver < n)
DoesBeside own n (GrantJob mode lver) = ⊥
DoesBeside own n (BecomeShared lver l) = ⊥
DoesBeside own n (BecomeExclusive lver b) = ⊥
DoesBeside own n next = Unit {0}

-- ---- what is owed

free_won : (g : Layout) (self : Owner) (ms : List Submitted) (n : ℕ) → free_left g self ms ≡ Some n → (o : Owner) × Contains (ended_ballots g ms) (n, o)
free_won g self [] n is = absurd (none_some n is)
free_won g self (m ∷ ms) n is = by (won_by g self m ms) refl is (λ rest. free_won g self ms n rest) where
  more : (o : Option (ℕ × Owner)) (p : ℕ × Owner) → Contains (ended_ballots g ms) p → Contains (elim o as (λ z. List (ℕ × Owner)) [ None ↦ ended_ballots g ms | Some q ↦ q ∷ ended_ballots g ms ]) p
  more None p there = there
  more (Some q) p there = contains_more q (ended_ballots g ms) p there

  here : (p : ℕ × Owner) → ended_ballot g m ms ≡ Some p → Contains (ended_ballots g (m ∷ ms)) p
  here p at = subst (λ (o : Option (ℕ × Owner)). Contains (elim o as (λ z. List (ℕ × Owner)) [ None ↦ ended_ballots g ms | Some q ↦ q ∷ ended_ballots g ms ]) p) (sym at) (contains_first p (ended_ballots g ms))

  won : (b : Bool) (k : ℕ) → (elim b as (λ z. Option ℕ) [ false ↦ None | true ↦ option_and_then (λ p. choose (same_owner p.1 self) p.0) (ended_ballot g m ms) ]) ≡ Some k → (o : Owner) × Contains (ended_ballots g (m ∷ ms)) (k, o)
  won false k h = absurd (none_some k h)
  won true k h =
      let v = then_value (λ (p : ℕ × Owner). choose (same_owner p.1 self) p.0) (ended_ballot g m ms) k h in
      let c = choose_some (same_owner v.0.1 self) v.0.0 k v.2 in
      (v.0.1, subst (λ j. Contains (ended_ballots g (m ∷ ms)) (j, v.0.1)) c.1 (here v.0 v.1))

  by : (o : Option ℕ) → won_by g self m ms ≡ o
      → (elim o as (λ z. Option ℕ) [ Some k ↦ Some k | None ↦ option_and_then (λ k. choose (not (settles_free g self k m ms)) k) (free_left g self ms) ]) ≡ Some n
      → (free_left g self ms ≡ Some n → (q : Owner) × Contains (ended_ballots g ms) (n, q)) → (q : Owner) × Contains (ended_ballots g (m ∷ ms)) (n, q)
  by (Some k) at h rest = won (is_heeded m) n (at ∙ h)
  by None at h rest =
      let v = then_value (λ k. choose (not (settles_free g self k m ms)) k) (free_left g self ms) n h in
      let c = choose_some (not (settles_free g self v.0 m ms)) v.0 n v.2 in
      let old = rest (v.1 ∙ ap (λ k. Some k) c.1) in
      (old.0, more (ended_ballot g m ms) (n, old.0) old.1)

-- The free that is owed lies below what is held.
other_below : (i n : ℕ) → i ≤ n → (n == i) ≡ false → i < n
other_below i n low other = by (less_or_same i n low) where
  by : (i < n) ⊎ (i ≡ n) → i < n
  by (inl less) = less
  by (inr is) = absurd (not_both (n == i) (subst (λ k. (k == i) ≡ true) is (number_itself i)) other)

-- ---- decisions

settled_beside : (p : LeasePlace) (k : LeaseKnown) (own : Block) (n : ℕ) → k.ballot ≡ None → k.own ≡ Some own → own.lver ≡ n → DoesBeside own n (settle_next p k)
unfolding settle_next
settled_beside p k own n none known under = subst (λ o. DoesBeside own n (settle_owed p k (elim o as (λ z. Option Owed) [
  | Some i ↦ Some (BallotOwed i)
  | None ↦ elim (k.shown && not k.shared) as (λ z. Option Owed) [ true ↦ Some ModeOwed | false ↦ option_map (λ i. FreeOwed i) (owed_free k) ]
]))) (sym none) (by (k.shown && not k.shared) (owed_free k)) where
  cleared : (o : Option Block) → o ≡ Some own → DoesBeside own n (option_map_or (λ b. WriteBlock ClearMode (moded_block b false 0)) o Nothing)
  cleared None is = tt
  cleared (Some b) is = let same : b ≡ own = some_value b own is in (refl, ap (λ (z : Block). z.lver) same ∙ under, ap (λ (z : Block). z.mbal) same)

  by : (b : Bool) (o : Option ℕ) → DoesBeside own n (settle_owed p k (elim b as (λ z. Option Owed) [ true ↦ Some ModeOwed | false ↦ option_map (λ i. FreeOwed i) o ]))
  by true o = cleared k.own known
  by false None = tt
  by false (Some i) = refl

-- What a read gave, if it is no step of a ballot.
read_beside : (p : LeasePlace) (k : LeaseKnown) (own : Block) (n : ℕ) (leader : Option Leader) (blocks : List (Option Block)) (step : LeaseStep) → k.ballot ≡ None → k.own ≡ Some own → own.lver ≡ n
    → ((j : ℕ) → owed_free k ≡ Some j → j < n) → is_ballot_step step ≡ false → DoesBeside own n (after_read p k Settles leader blocks (first_step step))
read_beside p k own n leader blocks step none known under low other = by step other where
  freed : (o : Option ℕ) → owed_free k ≡ o → DoesBeside own n (option_map_or (λ j. WriteLeader FreeLeader (leader_for p k false j)) o Nothing)
  freed None is = tt
  freed (Some j) is = (refl, λ free. low j is)

  by : (at : LeaseStep) → is_ballot_step at ≡ false → DoesBeside own n (after_read p k Settles leader blocks (first_step at))
  by (ReadArea name) ballot = absurd (true_is_false ballot)
  by Phase1Write ballot = absurd (true_is_false ballot)
  by Phase1Read ballot = absurd (true_is_false ballot)
  by Phase2Write ballot = absurd (true_is_false ballot)
  by Phase2Read ballot = absurd (true_is_false ballot)
  by ReadBeforeFree ballot = freed (owed_free k) refl
  by ReadBeforeBlock ballot = settled_beside p k own n none known under
  by (ReadAgain (OfArea name)) ballot = absurd (true_is_false ballot)
  by (ReadAgain OfPhase1) ballot = absurd (true_is_false ballot)
  by (ReadAgain OfPhase2) ballot = absurd (true_is_false ballot)
  by (ReadAgain OfFree) ballot = freed (owed_free k) refl
  by (ReadAgain OfBlock) ballot = settled_beside p k own n none known under
  by TakeLeader ballot = tt
  by SetMode ballot = tt
  by FreeLeader ballot = tt
  by ClearMode ballot = tt

write_beside : (p : LeasePlace) (k : LeaseKnown) (own : Block) (n i : ℕ) (step : LeaseStep) → k.ballot ≡ None → k.own ≡ Some own → own.lver ≡ n → is_ballot_step step ≡ false
    → DoesBeside own n (after_write p k Settles i step)
write_beside p k own n i (ReadArea name) none known under other = tt
write_beside p k own n i Phase1Write none known under other = absurd (true_is_false other)
write_beside p k own n i Phase1Read none known under other = tt
write_beside p k own n i Phase2Write none known under other = absurd (true_is_false other)
write_beside p k own n i Phase2Read none known under other = tt
write_beside p k own n i ReadBeforeFree none known under other = tt
write_beside p k own n i ReadBeforeBlock none known under other = tt
write_beside p k own n i (ReadAgain read) none known under other = tt
write_beside p k own n i TakeLeader none known under other = tt
write_beside p k own n i SetMode none known under other = tt
write_beside p k own n i FreeLeader none known under other = settled_beside p k own n none known under
write_beside p k own n i ClearMode none known under other = settled_beside p k own n none known under

-- A read that is made once more is of a ballot where its first was.
ballot_again : (read : LeaseRead) → is_ballot_step (ReadAgain read) ≡ is_ballot_step (step_of_read read)
ballot_again (OfArea name) = refl
ballot_again OfFree = refl
ballot_again OfBlock = refl
ballot_again OfPhase1 = refl
ballot_again OfPhase2 = refl

next_beside : (p : LeasePlace) (k : LeaseKnown) (own : Block) (n call i : ℕ) (step : LeaseStep) (answer : Answer) → k.ballot ≡ None → k.own ≡ Some own → own.lver ≡ n
    → ((j : ℕ) → owed_free k ≡ Some j → j < n) → is_ballot_step step ≡ false → DoesBeside own n (lease_next p k Settles call i step answer)
unfolding lease_next
next_beside p k own n call i step Failed none known under low other = tt
next_beside p k own n call i step Written none known under low other = write_beside p k own n i step none known under other
next_beside p k own n call i step (Read bytes) none known under low other =
    bytes_are (λ z. DoesBeside own n z) p k Settles bytes step
    (λ read is. ballot_again read ∙ (ap (λ z. is_ballot_step z) (sym (read_step step read (asked_is p.layout bytes step read is).first)) ∙ other))
    (λ once. read_beside p k own n (leader_read p.layout bytes (heard p.layout k bytes step)) (blocks_of p.layout (heard p.layout k bytes step)) step none known under low other)

-- ---- the holding

-- Held exclusively by the session on the area, it is what the lease knows.
pub exclusive_there : (x : Step) (s : Session) (g : Grant) → HoldsAt x → Contains (holdings (seen x)) g → g.session ≡ s.number → is_shared g.mode ≡ false → exclusive_on (seen x) s (spot_of_grant g) ≡ Some g
exclusive_there x s g h there mine exclusive = by (exclusive_on (seen x) s (spot_of_grant g)) refl where
  here : Contains (holdings_on (seen x) s (spot_of_grant g)) g
  here = kept (λ (k : Grant). same_place k.path k.offset g.path g.offset) (holdings_of (seen x) s) g (one_place g.path g.offset)
      (kept (λ (k : Grant). k.session == s.number) (holdings (seen x)) g (subst (λ n. (g.session == n) ≡ true) mine (number_itself g.session)) there)

  is_not : (b : Bool) → b ≡ false → not b ≡ true
  is_not b is = ap (λ c. not c) is

  by : (o : Option Grant) → exclusive_on (seen x) s (spot_of_grant g) ≡ o → exclusive_on (seen x) s (spot_of_grant g) ≡ Some g
  by None is = absurd (not_both (not (is_shared g.mode)) (is_not (is_shared g.mode) exclusive) (find_fails (λ (k : Grant). not (is_shared k.mode)) (holdings_on (seen x) s (spot_of_grant g)) g is here))
  by (Some k) is =
      let f = find_inside (λ (e : Grant). not (is_shared e.mode)) (holdings_on (seen x) s (spot_of_grant g)) k is in
      let on = kept_inside (λ (e : Grant). same_place e.path e.offset g.path g.offset) (holdings_of (seen x) s) k f.0 in
      let of = kept_inside (λ (e : Grant). e.session == s.number) (holdings (seen x)) k on.0 in
      is ∙ ap (λ e. Some e) (h.alone g k there of.0 on.1 exclusive)

owed_below : (x : Step) (s : Session) (g : Grant) → HoldsAt x → Contains (holdings (seen x)) g → g.session ≡ s.number → is_shared g.mode ≡ false
    → (h : StandsExclusive x.setting (seen x) (heard_by x.input) s (spot_of_grant g) g.lver) → (j : ℕ) → owed_free (known x.setting (seen x) s (spot_of_grant g)) ≡ Some j → j < g.lver
unfolding known
owed_below x s g holds there mine exclusive h j is =
    let v = then_value (λ i. choose (not (some_is (λ e. e == i) (option_map (λ (k : Grant). k.lver) (exclusive_on (seen x) s (spot_of_grant g))))) i)
    (free_left x.setting.layout (me (seen x) s) (lease_calls x.setting (seen x) s (spot_of_grant g))) j is in
    let c = choose_some (not (some_is (λ e. e == v.0) (option_map (λ (k : Grant). k.lver) (exclusive_on (seen x) s (spot_of_grant g))))) v.0 j v.2 in
    let w = free_won x.setting.layout (me (seen x) s) (lease_calls x.setting (seen x) s (spot_of_grant g)) v.0 v.1 in
    let other : (g.lver == v.0) ≡ false =
    is_not (g.lver == v.0) (ap (λ o. not (some_is (λ e. e == v.0) (option_map (λ (k : Grant). k.lver) o))) (sym (exclusive_there x s g holds there mine exclusive)) ∙ c.0) in
    subst (λ i. i < g.lver) c.1 (other_below v.0 g.lver (h.ended (v.0, w.0) w.1) other) where
      is_not : (b : Bool) → not b ≡ true → b ≡ false
      is_not false h = refl
      is_not true h = absurd (false_is_true h)

-- So a settling does nothing there that takes it away.
pub settles_beside : (x : Step) (s : Session) (p : LeasePlace) (g : Grant) → (h : StandsExclusive x.setting (seen x) (heard_by x.input) s (spot_of_grant g) g.lver)
    → DoesBeside h.own g.lver (settle_next p (known x.setting (seen x) s (spot_of_grant g)))
unfolding known
settles_beside x s p g h = settled_beside p (known x.setting (seen x) s (spot_of_grant g)) h.own g.lver h.concluded h.known h.under.0

pub leads_beside : (x : Step) (s : Session) (p : LeasePlace) (g : Grant) (call i : ℕ) (step : LeaseStep) (answer : Answer) → HoldsAt x → Contains (holdings (seen x)) g → g.session ≡ s.number
    → is_shared g.mode ≡ false → (h : StandsExclusive x.setting (seen x) (heard_by x.input) s (spot_of_grant g) g.lver) → is_ballot_step step ≡ false
    → DoesBeside h.own g.lver (lease_next p (known x.setting (seen x) s (spot_of_grant g)) Settles call i step answer)
unfolding known
leads_beside x s p g call i step answer holds there mine exclusive h other =
    next_beside p (known x.setting (seen x) s (spot_of_grant g)) h.own g.lver call i step answer h.concluded h.known h.under.0
    (λ j is. owed_below x s g holds there mine exclusive h j is) other
