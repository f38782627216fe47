-- What a read tells a member's lease is told of the lease as it has heard it: what is kept of the first of two reads stays.
use Rattle.sl_area.specs.AreaSizes.{Sizes, layout_of}
use Rattle.sl_area.specs.Pairs.{pairs_kept}
use Rattle.sl_host.proofs.AnswersTold.{number_of, the_member}
use Rattle.sl_host.specs.HeardAnswers.{IsTold, first_to, is_over_in, lease_heard}
use Rattle.sl_host.specs.declared.told_answers.Told.TheVariants.{Again, Gave}
use Rattle.sl_host.specs.declared.told_answers.Told.{Told}
use Rattle.sl_host_law.specs.Steps.Leases.{lease_at}
use Rattle.sl_host_state.specs.KeptState.{LeaseState, MemberState}
use Rattle.sl_host_state.specs.MadeEffects.{is_lease_on, new_lease}
use Rattle.sl_host_state.specs.declared.kept_parts.LeaseCall.{LeaseCall}
use Rattle.sl_host_state.specs.declared.kept_parts.OpenCall.{OpenCall}
use Rattle.sl_lease.specs.LeaseQuestions.{leader_given, read_given}
use Rattle.sl_lease.specs.Changes.{read_told, turn_told}
use Rattle.sl_lease.specs.Laws.{first_by}
use Rattle.sl_lease.specs.declared.side.Side.{Side}
use Rattle.sl_member.proofs.LeasesByPlace.{kept_stays, read_stays}
use Rattle.sl_member.specs.Leases.{changed_at, first_among, first_if_second, read_shown}
use Rattle.sl_member.specs.Members.{RunOf, lease_changed}
use Rattle.sl_member.specs.HostMembers.{AreApart, changed_member, member_with, side_with}
use Rattle.sl_words.proofs.Lists.{find_inside, in_map, kept_inside}
use Rattle.sl_sector.specs.declared.sector.Block.{Block}
use Rattle.sl_sector.specs.declared.sector.Leader.{Leader}
use Rattle.sl_sector.specs.declared.sector.PairBlock.{PairBlock}
use Rattle.sl_trace.specs.LeaseDecisions.{first_step, part_read}
use Rattle.sl_trace.specs.Leases.{is_second}
use Rattle.sl_trace.specs.Traces.{same_spot}
use Rattle.sl_trace.specs.declared.effects.LeaseStep.{LeaseStep}
use Rattle.sl_trace.specs.declared.effects.Spot.{Spot}
use Rattle.sl_words.proofs.CaseLaws.{true_is_false}
use Rattle.std.proofs.Common.{ap, refl, sym, ◌∙◌}
use Rattle.std.specs.Cmp.{nat_eq_equiv}
use Rattle.std.specs.Prelude.{Bool, Contains, List, None, Option, Some, [], cond, false, filter, find, map, not, option_and_then, option_map, true, unwrap_or, ℕ, ◌==◌, ◌∷◌, ◌≡◌}

-- ---- the lease on an area

-- A change that leaves it on its area changes the one that is found.
lease_after : (at : Spot) (f : LeaseState → LeaseState) (ls : List LeaseState) → ((l : LeaseState) → (f l).spot ≡ l.spot)
    → find (is_lease_on at) (changed_at at f ls) ≡ option_map f (find (is_lease_on at) ls)
lease_after at f [] stays = refl
lease_after at f (l ∷ ls) stays = by (is_lease_on at l) refl (lease_after at f ls stays)
  where
    by : (b : Bool) → is_lease_on at l ≡ b → find (is_lease_on at) (changed_at at f ls) ≡ option_map f (find (is_lease_on at) ls)
        → cond (is_lease_on at (cond b (f l) l)) (Some (cond b (f l) l)) (find (is_lease_on at) (changed_at at f ls)) ≡ option_map f (cond b (Some l) (find (is_lease_on at) ls))
    by true is rest = ap (λ t. cond t (Some (f l)) (find (is_lease_on at) (changed_at at f ls))) (ap (same_spot at) (stays l) ∙ is)
    by false is rest = ap (λ t. cond t (Some l) (find (is_lease_on at) (changed_at at f ls))) is ∙ rest

first_stays : (z : Side) (turn : Option ℕ) (heeded : Bool) (d : Option Leader) (read : List (Option Block)) (l : LeaseState) → (read_shown z turn heeded d read l).pair.first ≡ l.pair.first
first_stays z turn heeded d read l = by l.waiting
  where
    by : (o : Option LeaseCall) → (let m : LeaseState = elim o [ None ↦ turn_told turn l | Some w ↦ read_told z heeded w.step d read (turn_told turn l) ] in m.pair.first) ≡ l.pair.first
    by None = refl
    by (Some w) = refl

-- ---- the member

-- Of the members that are left, the one of this number is the one that changed.
pub record Changed (n : ℕ) (f : MemberState → MemberState) (ms : List MemberState) (m : MemberState) : Type 0 where
  pub before : MemberState
  pub was : member_with n ms ≡ Some before
  pub is : f before ≡ m

changed_so : (n : ℕ) (f : MemberState → MemberState) (q : MemberState → Bool) (ms : List MemberState) (m : MemberState) → AreApart (map number_of ms)
    → member_with n (filter q (changed_member n f ms)) ≡ Some m → Changed n f ms m
changed_so n f q ms m apart found =
    let inside = find_inside (λ (s : MemberState). s.who.number == n) (filter q (changed_member n f ms)) m found in
    let there = in_map (λ (s : MemberState). cond (n == s.who.number) (f s) s) ms m (kept_inside q (changed_member n f ms) m inside.0).0 in
    by there.0 there.1 (n == number_of there.0) refl there.2 inside.1
  where
    by : (s : MemberState) → Contains ms s → (b : Bool) → (n == number_of s) ≡ b → cond b (f s) s ≡ m → (number_of m == n) ≡ true → Changed n f ms m
    by s there true its is number = record { before = s; was = the_member n ms s apart there its; is = is }
    by s there false off is number =
        absurd (true_is_false (sym (nat_eq_equiv.symm n (number_of m) ∙ number) ∙ (ap (λ (x : MemberState). n == x.who.number) (sym is) ∙ off)))

module _ (run : RunOf) (z : Sizes) (ms : List MemberState) (n : ℕ) (at : Spot) (turn : Option ℕ) (heeded : Bool) (step : LeaseStep) (bytes : List ℕ) (told : Told) (blocks : List (Option Block)) where
  abbrev heard : MemberState → LeaseState → LeaseState
  heard s = lease_heard run turn heeded step bytes told blocks s

  heard_stays : (s : MemberState) (l : LeaseState) → (heard s l).spot ≡ l.spot
  heard_stays s l = by told
    where
      by : (t : Told) → (lease_heard run turn heeded step bytes t blocks s l).spot ≡ l.spot
      by Again = kept_stays turn (pairs_kept (layout_of run.sizes) (part_read (layout_of run.sizes) bytes (first_step step))) l
      by (Gave leader) = read_stays (side_with run s) turn heeded leader blocks l

  -- What is kept of the first read, where this one gave something.
  kept_same : (leader : Option Leader) → told ≡ Gave leader → (s : MemberState) → member_with n ms ≡ Some s
      → first_by (lease_at (lease_changed at (heard s) s) at).pair step ≡ first_to n at step ms
  kept_same leader so s was =
      ap (λ o. first_by (unwrap_or o (new_lease at)).pair step) (lease_after at (heard s) s.leases (heard_stays s))
      ∙ (by_lease (find (is_lease_on at) s.leases) ∙ sym (ap (λ o. unwrap_or (option_and_then (λ (x : MemberState). first_among at step x.leases) o) []) was))
    where
      by_second : (b : Bool) (l : LeaseState) → cond b (unwrap_or (heard s l).pair.first []) [] ≡ unwrap_or (cond b l.pair.first None) []
      by_second true l =
          ap (λ (t : Told). unwrap_or (lease_heard run turn heeded step bytes t blocks s l).pair.first []) so
          ∙ ap (λ (o : Option (List (Option PairBlock))). unwrap_or o []) (first_stays (side_with run s) turn heeded leader blocks l)
      by_second false l = refl

      none : (b : Bool) → (let o : Option (List (Option PairBlock)) = None in cond b (unwrap_or o []) []) ≡ []
      none true = refl
      none false = refl

      by_lease : (o : Option LeaseState) → first_by (unwrap_or (option_map (heard s) o) (new_lease at)).pair step ≡ unwrap_or (option_and_then (first_if_second step) o) []
      by_lease None = none (is_second step)
      by_lease (Some l) = by_second (is_second step) l

  pub told_after : (cs : List OpenCall) (ns : List MemberState) → AreApart (map (λ (s : MemberState). s.who.number) ms)
      → ns ≡ filter (λ s. not (is_over_in cs s)) (changed_member n (λ s. lease_changed at (lease_heard run turn heeded step bytes told blocks s) s) ms)
      → IsTold z (first_to n at step ms) step bytes told blocks → (m : MemberState) → member_with n ns ≡ Some m → IsTold z (first_by (lease_at m at).pair step) step bytes told blocks
  told_after cs ns apart made t m found =
      let f : MemberState → MemberState = λ s. lease_changed at (heard s) s in
      let c = changed_so n f (λ s. not (is_over_in cs s)) ms m apart (sym (ap (member_with n) made) ∙ found) in
      let same : (leader : Option Leader) → told ≡ Gave leader → first_to n at step ms ≡ first_by (lease_at m at).pair step =
      (λ leader so. sym (kept_same leader so c.before c.was) ∙ ap (λ (x : MemberState). first_by (lease_at x at).pair step) c.is) in
      record {
        again = t.again;
        gave = λ leader so.
            let g = t.gave leader so in
            (g.0, g.1 ∙ ap (λ first. leader_given (layout_of z) first step bytes) (same leader so), g.2 ∙ ap (λ first. read_given (layout_of z) first step bytes) (same leader so));
      }
