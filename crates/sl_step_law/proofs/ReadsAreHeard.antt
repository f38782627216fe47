-- A lease that has heard a read which isn't made once more: it keeps the greatest number of the blocks that the read gave, and the name of the resource
-- that was sought, where the leader verified it. A second read is heard with what is kept of the first one.
use Rattle.sl_due_facts.proofs.Acts.Pairs.Decisions.{not_asked}
use Rattle.sl_area.specs.AreaSizes.{Layout}
use Rattle.sl_area.specs.Pairs.{BlocksRead, blocks_of, needs_again, pairs_kept, read_once}
use Rattle.sl_area.specs.TornLeader.{leader_read}
use Rattle.sl_host_state.specs.HeardInputs.{blocks_heard, is_area_step, kept_heard, lease_hearing, read_heard, top_hearing, verified_at}
use Rattle.sl_host_state.specs.KeptState.{LeaseState, PairState}
use Rattle.sl_host_state.specs.HostStands.{first_read}
use Rattle.sl_host_state.specs.declared.kept_parts.LeaseCall.{LeaseCall}
use Rattle.sl_host_state.specs.declared.kept_parts.OpenCall.{OpenCall}
use Rattle.sl_lease.specs.LeaseQuestions.{heard_with, leader_given, read_given}
use Rattle.sl_lease.specs.Steps.{is_first_step, is_read_step}
use Rattle.sl_sector.specs.declared.sector.Leader.{Leader}
use Rattle.sl_sector.specs.declared.sector.Owner.{Owner}
use Rattle.sl_sector.specs.declared.sector.PairBlock.{PairBlock}
use Rattle.sl_trace.specs.LeaseDecisions.{asked_again, first_step, part_read}
use Rattle.sl_trace.specs.Leases.{given_with, is_leader_of, is_second, name_sought}
use Rattle.sl_trace.specs.declared.effects.LeaseRead.TheVariants.{OfArea, OfBlock, OfFree, OfPhase1, OfPhase2}
use Rattle.sl_trace.specs.declared.effects.LeaseStep.TheVariants.{Phase1Read, Phase2Read, ReadAgain, ReadArea, ReadBeforeBlock, ReadBeforeFree}
use Rattle.sl_trace.specs.declared.effects.LeaseStep.{LeaseStep}
use Rattle.sl_trace.specs.declared.effects.Purpose.TheVariants.{Lease}
use Rattle.sl_trace.specs.declared.effects.Work.{Work}
use Rattle.sl_trace.specs.declared.input.Answer.TheVariants.{Read}
use Rattle.sl_words.proofs.CaseLaws.{false_is_true, true_is_false}
use Rattle.sl_words.specs.Words.{choose}
use Rattle.std.proofs.Common.{ap, refl, sym, ◌∙◌}
use Rattle.std.specs.Option.{option_or}
use Rattle.std.specs.Prelude.{Bool, IsTrue, List, None, Option, Some, cond, false, is_some, not, option_and_then, option_map, true, unwrap_or, [], ℕ, ◌≡◌}

-- ---- what it is heard to give

once_with : (g : Layout) (p : PairState) (bs : List ℕ) → false ≡ p.again → needs_again g bs ≡ false → choose (not (needs_again g bs)) (read_once bs) ≡ Some (record { kept = first_read p; last = bs })
once_with g p bs again once =
    ap (λ b. choose (not b) (read_once bs)) once ∙ ap (λ b. (let r : BlocksRead = record { kept = cond b (unwrap_or p.first []) []; last = bs } in Some r)) again

twice_with : (g : Layout) (p : PairState) (bs : List ℕ) → true ≡ p.again → (p.again ≡ true → IsTrue (is_some p.first)) → given_with g true p.first (Some bs) ≡ Some (record { kept = first_read p; last = bs })
twice_with g p bs again kept =
    by p.first (kept (sym again)) ∙ ap (λ b. (let r : BlocksRead = record { kept = cond b (unwrap_or p.first []) []; last = bs } in Some r)) again where
      by : (o : Option (List (Option PairBlock))) → is_some o ≡ true → given_with g true o (Some bs) ≡ Some (record { kept = unwrap_or o []; last = bs })
      by None some = absurd (false_is_true some)
      by (Some pairs) some = refl

pub read_is : (g : Layout) (p : PairState) (step : LeaseStep) (bytes : List ℕ) → is_read_step step ≡ true → is_second step ≡ p.again → (p.again ≡ true → IsTrue (is_some p.first)) → asked_again g bytes step ≡ None
    → read_heard g p step bytes ≡ Some (heard_with g (first_read p) step bytes)
read_is g p (ReadArea name) bytes reads again kept once = once_with g p (part_read g bytes (ReadArea name)) again (not_asked g bytes (ReadArea name) (OfArea name) refl once)
read_is g p ReadBeforeFree bytes reads again kept once = once_with g p (part_read g bytes ReadBeforeFree) again (not_asked g bytes ReadBeforeFree OfFree refl once)
read_is g p ReadBeforeBlock bytes reads again kept once = once_with g p (part_read g bytes ReadBeforeBlock) again (not_asked g bytes ReadBeforeBlock OfBlock refl once)
read_is g p Phase1Read bytes reads again kept once = once_with g p (part_read g bytes Phase1Read) again (not_asked g bytes Phase1Read OfPhase1 refl once)
read_is g p Phase2Read bytes reads again kept once = once_with g p (part_read g bytes Phase2Read) again (not_asked g bytes Phase2Read OfPhase2 refl once)
read_is g p (ReadAgain (OfArea name)) bytes reads again kept once = twice_with g p (part_read g bytes (ReadArea name)) again kept
read_is g p (ReadAgain OfFree) bytes reads again kept once = twice_with g p (part_read g bytes ReadBeforeFree) again kept
read_is g p (ReadAgain OfBlock) bytes reads again kept once = twice_with g p (part_read g bytes ReadBeforeBlock) again kept
read_is g p (ReadAgain OfPhase1) bytes reads again kept once = twice_with g p (part_read g bytes Phase1Read) again kept
read_is g p (ReadAgain OfPhase2) bytes reads again kept once = twice_with g p (part_read g bytes Phase2Read) again kept
read_is g p step bytes reads again kept once = absurd (false_is_true reads)

-- ---- the step that seeks a resource

pub seeks : (work : Work) (step : LeaseStep) (name : List ℕ) → first_step step ≡ ReadArea name → (name_sought (Lease work step) ≡ Some name) × (is_area_step step ≡ true) × (is_read_step step ≡ true)
seeks work (ReadArea n) name is = (ap (λ s. name_sought (Lease work s)) is, refl, refl)
seeks work (ReadAgain (OfArea n)) name is = (ap (λ s. name_sought (Lease work s)) is, refl, refl)
seeks work (ReadAgain OfFree) name is = absurd (true_is_false (sym (ap is_first_step is)))
seeks work (ReadAgain OfBlock) name is = absurd (true_is_false (sym (ap is_first_step is)))
seeks work (ReadAgain OfPhase1) name is = absurd (true_is_false (sym (ap is_first_step is)))
seeks work (ReadAgain OfPhase2) name is = absurd (true_is_false (sym (ap is_first_step is)))
seeks work step name is = absurd (true_is_false (sym (ap is_first_step is)))

-- ---- a lease that has heard it

-- Of a second read nothing is kept.
none_kept : (g : Layout) (step : LeaseStep) (bytes : List ℕ) → is_second step ≡ true → kept_heard g step (Read bytes) ≡ None
none_kept g step bytes is =
    ap (λ b. elim b as (λ z. Option (List (Option PairBlock))) [ true ↦ None | false ↦ option_and_then (λ bs. choose (needs_again g bs) (pairs_kept g bs)) (blocks_heard g step bytes) ]) is

module _ (g : Layout) (lockspace : List ℕ) (self : Owner) (heeded : Bool) (c : OpenCall) (w : LeaseCall) (bytes : List ℕ) (l : LeaseState) (again : is_second w.step ≡ l.pair.again) where
  abbrev told : LeaseState
  told = lease_hearing g lockspace self heeded c (Read bytes) w l

  -- What is kept of a first read stays, where it was the second.
  pub first_stays : first_read told.pair ≡ first_read l.pair
  first_stays = ap (λ b. cond b (unwrap_or told.pair.first []) []) (sym again) ∙ by (is_second w.step) refl ∙ ap (λ b. cond b (unwrap_or l.pair.first []) []) again where
    by : (b : Bool) → is_second w.step ≡ b → cond b (unwrap_or told.pair.first []) [] ≡ cond b (unwrap_or l.pair.first []) []
    by false is = refl
    by true is = ap (λ o. unwrap_or (option_or o l.pair.first) []) (none_kept g w.step bytes is)

  module _ (reads : is_read_step w.step ≡ true) (kept : l.pair.again ≡ true → IsTrue (is_some l.pair.first)) (once : asked_again g bytes w.step ≡ None) where
    heard : read_heard g l.pair w.step bytes ≡ Some (heard_with g (first_read told.pair) w.step bytes)
    heard = read_is g l.pair w.step bytes reads again kept once ∙ ap (λ first. Some (heard_with g first w.step bytes)) (sym first_stays)

    pub told_top : told.top ≡ top_hearing l (Some (read_given g (first_read told.pair) w.step bytes))
    told_top = ap (λ r. top_hearing l (option_map (blocks_of g) r)) heard

    pub told_name : (name : List ℕ) (leader : Leader) → c.purpose ≡ Lease w.work w.step → first_step w.step ≡ ReadArea name → leader_given g (first_read told.pair) w.step bytes ≡ Some leader
        → is_leader_of g lockspace name leader ≡ true → told.name ≡ name
    told_name name leader for is gives verifies =
        ap (λ r. unwrap_or (verified_at g lockspace c.purpose (elim (is_area_step w.step) as (λ z. Option Leader) [ false ↦ None | true ↦ option_and_then (leader_read g bytes) r ])) l.name) heard
        ∙ ap (λ d. unwrap_or (verified_at g lockspace c.purpose d) l.name) gives
        ∙ ap (λ q. unwrap_or (option_and_then (λ n. choose (is_leader_of g lockspace n leader) n) q) l.name) (ap (λ q. name_sought q) for ∙ (seeks w.work w.step name is).0)
        ∙ ap (λ b. unwrap_or (choose b name) l.name) verifies
