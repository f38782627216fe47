-- A lease whose call is answered waits for nothing: of its calls only the newest may be open, and that is the answered one.
use Rattle.sl_host_law.proofs.Answers.AnswersFollow.{idle_job, place, stands}
use Rattle.sl_host_law.proofs.Answers.AnswersSetFree.{of_trace}
use Rattle.sl_host_law.proofs.Answers.DecisionsAreCarried.{layout_is}
use Rattle.sl_host_law.specs.Answers.AnswersFollow.{IsAnswerTo}
use Rattle.sl_host_law.specs.Answers.LeaseAnswers.{area_of}
use Rattle.sl_host_law.specs.Answers.LeaseDecisions.{MayWork}
use Rattle.sl_host_law.specs.Answers.LeasesSetFree.{GoesOn, LeasesSetFree, is_lease_op}
use Rattle.sl_area.specs.AreaSizes.{Layout}
use Rattle.sl_area.specs.Pairs.{blocks_of, needs_again, pairs_kept, read_once}
use Rattle.sl_host_law.proofs.Calls.MemberCalls.SpotsMore.{on_own, one_spot, spot_there}
use Rattle.sl_host_law.specs.Calls.MemberCalls.{fits_again, fits_generation, fits_lease, fits_value, follows_read, is_idle_job, is_leaving_alone}
use Rattle.sl_due.specs.Steps.{Step, seen, with_input}
use Rattle.sl_host_law.proofs.SharedFacts.PlainLists.{any_mapped, at_some, each_of, found_some}
use Rattle.sl_host_state.proofs.Pairs.{again_is}
use Rattle.sl_host_state.specs.HeardInputs.{blocks_heard, blocks_shown, heard_answer, is_heeded_by, kept_heard, lease_hearing, lease_told, member_hearing, top_hearing}
use Rattle.sl_host_state.specs.KeptState.{Config, HostState, LeaseState, MemberState, PairState}
use Rattle.sl_host_state.specs.MadeEffects.{is_lease_on, next_submitted}
use Rattle.sl_host_state.specs.HostStands.{IsKeptCall, IsWaiting, Keeps, LeaseStands, is_again_newest, kept_call, top_mbal}
use Rattle.sl_host_state.specs.declared.kept_parts.LeaseCall.{LeaseCall}
use Rattle.sl_host_state.specs.declared.kept_parts.OpenCall.{OpenCall}
use Rattle.sl_host_state.specs.declared.kept_parts.TopNumber.{TopNumber}
use Rattle.sl_trace.specs.Leases.{Phase2_write, given_with, is_at, is_lease_call, is_on, is_second, lease_calls, lease_step, spot_of_call}
use Rattle.sl_words.proofs.Lists.{any_found, contains_cases, contains_map, find_inside, in_map, kept, kept_inside}
use Rattle.sl_words.proofs.Numbers.{number_itself}
use Rattle.sl_words.proofs.Options.{none_is}
use Rattle.sl_host_law.specs.Questions.Answers.{spot_in}
use Rattle.sl_host_law.specs.Questions.Jobs.{goes_on_in}
use Rattle.sl_host_law.specs.Questions.Members.{me_in}
use Rattle.sl_sector.specs.declared.sector.Block.{Block}
use Rattle.sl_sector.specs.declared.sector.PairBlock.{PairBlock}
use Rattle.sl_sector.specs.declared.sector.Rec.TheVariants.{BlockIs, DeltaIs, LeaderIs, PairIs, PairLeaderIs, RequestIs, ValueIs}
use Rattle.sl_trace.specs.Sessions.{calls_of, is_call_of, me}
use Rattle.sl_trace.specs.Traces.{Submitted, bytes_given, job_of, same_spot, submitted}
use Rattle.sl_trace.specs.declared.effects.LeaseStep.TheVariants.{Phase1Read, ReadAgain}
use Rattle.sl_trace.specs.declared.effects.LeaseStep.{LeaseStep}
use Rattle.sl_trace.specs.declared.effects.Op.TheVariants.{ReadSectors, WriteRecord}
use Rattle.sl_trace.specs.declared.effects.Op.{Op}
use Rattle.sl_trace.specs.declared.effects.Purpose.TheVariants.{Lease}
use Rattle.sl_trace.specs.declared.effects.Work.TheVariants.{ForJob, Settling}
use Rattle.sl_trace.specs.declared.effects.Work.{Work}
use Rattle.sl_trace.specs.declared.input.Answer.TheVariants.{Read}
use Rattle.sl_trace.specs.declared.input.Answer.{Answer}
use Rattle.sl_trace.specs.declared.input.Input.TheVariants.{Answer as Told}
use Rattle.sl_words.proofs.CaseLaws.{false_is_true, none_some, some_value, true_is_false}
use Rattle.sl_words.specs.Words.{choose, some_is}
use Rattle.sl_trace.specs.LeaseDecisions.{asked_again, first_step}
use Rattle.sl_trace.specs.declared.effects.LeaseRead.TheVariants.{OfArea, OfBlock, OfFree, OfPhase1, OfPhase2}
use Rattle.sl_trace.specs.declared.effects.LeaseRead.{LeaseRead}
use Rattle.std.proofs.Common.{ap, arith, inl, inr, refl, subst, sym, ◌∙◌}
use Rattle.std.specs.List.{list_any}
use Rattle.std.specs.Option.{option_map_or, option_or}
use Rattle.std.specs.Prelude.{Bool, Contains, IsTrue, List, None, Option, Some, cond, false, find, is_none, is_some, nat_lt, not, option_and_then, option_map, true, [], ℕ, ◌&&◌, ◌<◌, ◌==◌, ◌||◌, ◌∷◌, ◌≡◌, ◌⊎◌}

both : (p q : Bool) → p ≡ true → q ≡ true → (p && q) ≡ true
both true q is also = also
both false q is also = absurd (false_is_true is)

value_there : {A : Type 0} (o : Option A) → is_some o ≡ true → (y : A) × (o ≡ Some y)
value_there None is = absurd (false_is_true is)
value_there (Some y) is = (y, refl)

-- The read of the first phase shows all blocks, unless it is to be made once more.
first_shows : (g : Layout) (p : PairState) (bytes : List ℕ) (s : LeaseStep) → first_step s ≡ Phase1Read → asked_again g bytes s ≡ None → (is_second s ≡ true → IsTrue (is_some p.first))
    → (bs : List (Option Block)) × (blocks_shown g p s (Read bytes) ≡ Some bs)
first_shows g p bytes Phase1Read is once second = by (needs_again g bytes) once where
  by : (b : Bool) → elim b as (λ z. Option LeaseRead) [ false ↦ None | true ↦ Some OfPhase1 ] ≡ None → (bs : List (Option Block)) × (option_map (blocks_of g) (choose (not b) (read_once bytes)) ≡ Some bs)
  by false at = (blocks_of g (read_once bytes), refl)
  by true at = absurd (none_some OfPhase1 (sym at))
first_shows g p bytes (ReadAgain OfPhase1) is once second = by p.first (second refl) where
  by : (o : Option (List (Option PairBlock))) → IsTrue (is_some o) → (bs : List (Option Block)) × (option_map (blocks_of g) (given_with g true o (Some bytes)) ≡ Some bs)
  by None at = absurd (false_is_true at)
  by (Some pairs) at = (blocks_of g (record { kept = pairs; last = bytes }), refl)
first_shows g p bytes (ReadAgain (OfArea name)) is once second = absurd cc
first_shows g p bytes (ReadAgain OfFree) is once second = absurd cc
first_shows g p bytes (ReadAgain OfBlock) is once second = absurd cc
first_shows g p bytes (ReadAgain OfPhase2) is once second = absurd cc
first_shows g p bytes s is once second = absurd cc

-- What is kept of a first read is so of one that was made once.
kept_of_first : (g : Layout) (s : LeaseStep) (a : Answer) → is_some (kept_heard g s a) ≡ true → is_second s ≡ false
kept_of_first g s a = by (is_second s) where
  by : (b : Bool)
      → is_some (elim b as (λ z. Option (List (Option PairBlock))) [
        | true ↦ None
        | false ↦ option_and_then (λ bs. choose (needs_again g bs) (pairs_kept g bs)) (option_and_then (blocks_heard g s) (bytes_given a))
      ]) ≡ true → b ≡ false
  by false is = refl
  by true is = absurd (false_is_true is)

-- What waits is the open call, and that is the newest.
waits_for : (w : LeaseCall) (ds : List Submitted) (d : Submitted) → IsWaiting (Some w) ds → Contains ds d → d.answer ≡ None → IsKeptCall d w × (is_again_newest ds ≡ is_second w.step)
waits_for w [] d waits there open_d = absurd waits
waits_for w (f ∷ ds) d waits there open_d = by (contains_cases f ds d there) where
  by : (f ≡ d) ⊎ Contains ds d → IsKeptCall d w × (is_again_newest (f ∷ ds) ≡ is_second w.step)
  by (inl is) = (subst (λ (z : Submitted). IsKeptCall z w) is waits.0, again_is f w.work w.step waits.0.2)
  by (inr later) = absurd (true_is_false (sym (each_of (λ (y : Submitted). IsTrue (is_some y.answer)) ds d waits.1 later) ∙ ap is_some open_d))

-- A lease that waits for the answered call, at its step, hears it.
record HearsIt (h : HostState) (m : MemberState) (c : OpenCall) (a : Answer) (step : LeaseStep) (l : LeaseState) : Type 0 where
  waited : LeaseCall
  at : waited.step ≡ step
  again : l.pair.again ≡ is_second step
  second : is_second step ≡ true → IsTrue (is_some l.pair.first)
  told : lease_told h m (is_heeded_by h c) c a l ≡ lease_hearing h.config.layout m.who.lockspace (me_in m) (is_heeded_by h c) c a waited l

module _ (number : ℕ) (c : OpenCall) (a : Answer) (h : HostState) (x : Step) (k : ℕ) (m : MemberState) (to : IsAnswerTo number c a h x k m) where
  abbrev told : LeaseState → LeaseState
  told l = lease_told h m (is_heeded_by h c) c a l

  pub told_spot : (l : LeaseState) → (lease_told h m (is_heeded_by h c) c a l).spot ≡ l.spot
  told_spot l = by l.waiting where
    by_number : (w : LeaseCall) (b : Bool)
        → (cond b (lease_hearing h.config.layout m.who.lockspace (me_in m) (is_heeded_by h c) c a w l) l).spot ≡ l.spot
    by_number w true = refl
    by_number w false = refl

    by : (o : Option LeaseCall) → (elim o as (λ z. LeaseState) [
      | None ↦ l
      | Some w ↦ cond (w.number == c.number)
          (lease_hearing h.config.layout m.who.lockspace (me_in m) (is_heeded_by h c) c a w l) l
    ]).spot ≡ l.spot
    by None = refl
    by (Some w) = by_number w (w.number == c.number)

  keeps : Keeps h x.setting (seen x)
  keeps = to.stands.keeps

  found : Contains h.unanswered c
  found = (find_inside (λ (d : OpenCall). d.number == number) h.unanswered c to.is_open).0

  pub call_told : (d : Submitted) × Contains (calls_of (seen x) m.who) d × (d.answer ≡ None) × (kept_call d ≡ c)
  call_told =
      let d = of_trace h x.setting (seen x) c keeps found in
      let inside = kept_inside (λ (z : Submitted). is_none z.answer) (submitted (seen x)) d.0 d.1 in (
        d.0,
        kept (is_call_of m.who) (submitted (seen x)) d.0 (ap (λ (z : OpenCall). z.session == m.who.number) d.2 ∙ to.its) inside.0,
        none_is d.0.answer inside.1,
        d.2,
      )

  module _ (work : Work) (step : LeaseStep) (is : c.purpose ≡ Lease work step) (room : 0 < x.setting.layout.area) where
    works : is_lease_call call_told.0 ≡ true
    works = ap (λ (z : OpenCall). is_some (lease_step z.purpose)) call_told.3 ∙ ap (λ p. is_some (lease_step p)) is

    -- A lease on its area hears it.
    hears_it : (l : LeaseState) → Contains m.leases l → is_lease_on (spot_of_call x.setting.layout call_told.0) l ≡ true → HearsIt h m c a step l
    hears_it l there on = by l.waiting refl where
      stands_l : LeaseStands x.setting.layout m.who.lockspace (me (seen x) m.who) l (lease_calls x.setting (seen x) m.who l.spot)
      stands_l = (keeps.members k m to.there).leases (at_some m.leases l there).0 l (at_some m.leases l there).1

      in_it : Contains (lease_calls x.setting (seen x) m.who l.spot) call_told.0
      in_it =
          kept (λ (z : Submitted). is_lease_call z && is_on x.setting.layout l.spot z.call) (calls_of (seen x) m.who) call_told.0
          (both (is_lease_call call_told.0) (is_on x.setting.layout l.spot call_told.0.call) works
          (subst (λ p. is_on x.setting.layout p call_told.0.call ≡ true) (one_spot (spot_of_call x.setting.layout call_told.0) l.spot on) (on_own x.setting.layout call_told.0 room))) call_told.1

      by : (o : Option LeaseCall) → l.waiting ≡ o → HearsIt h m c a step l
      by None waits =
          let all = subst (λ o. IsWaiting o (lease_calls x.setting (seen x) m.who l.spot)) waits stands_l.waiting in
          absurd (true_is_false (sym (each_of (λ (y : Submitted). IsTrue (is_some y.answer)) (lease_calls x.setting (seen x) m.who l.spot) call_told.0 all in_it) ∙ ap is_some call_told.2))
      by (Some w) waits =
          let its = waits_for w (lease_calls x.setting (seen x) m.who l.spot) call_told.0 (subst (λ o. IsWaiting o (lease_calls x.setting (seen x) m.who l.spot)) waits stands_l.waiting) in_it call_told.2 in
          let at : w.step ≡ step =
          sym (ap (λ q. q.1) (some_value (work, step) (w.work, w.step) (sym (ap (λ (z : OpenCall). lease_step z.purpose) call_told.3 ∙ ap lease_step is) ∙ its.0.2)))
          in
          let again : l.pair.again ≡ is_second step = sym stands_l.again ∙ its.1 ∙ ap is_second at in
          record {
            waited = w;
            at = at;
            again = again;
            second = λ two. stands_l.second (again ∙ two);
            told = ap (λ o. elim o as (λ z. LeaseState) [
              | None ↦ l
              | Some v ↦ cond (v.number == c.number) (lease_hearing h.config.layout m.who.lockspace (me_in m) (is_heeded_by h c) c a v l) l
            ]) waits
                ∙ ap (λ b. cond b (lease_hearing h.config.layout m.who.lockspace (me_in m) (is_heeded_by h c) c a w l) l)
                (ap (λ n. n == c.number) (sym its.0.1 ∙ ap (λ (z : OpenCall). z.number) call_told.3) ∙ number_itself c.number);
          }

    -- It waits for nothing then.
    told_none : (l : LeaseState) → Contains m.leases l → is_lease_on (spot_of_call x.setting.layout call_told.0) l ≡ true → (lease_told h m (is_heeded_by h c) c a l).waiting ≡ None
    told_none l there on = ap (λ (z : LeaseState). z.waiting) (hears_it l there on).told

    -- After the read of the first phase the greatest number of the own block's instance is known.
    pub told_top : (l : LeaseState) → Contains m.leases l → is_lease_on (spot_of_call x.setting.layout call_told.0) l ≡ true → (bytes : List ℕ) → a ≡ Read bytes → first_step step ≡ Phase1Read
        → asked_again h.config.layout bytes step ≡ None → (own : Block) → (lease_told h m (is_heeded_by h c) c a l).own ≡ Some own
        → some_is (λ (t : TopNumber). t.instance == own.lver) (lease_told h m (is_heeded_by h c) c a l).top ≡ true
    told_top l there on bytes read first once own has =
        let its = hears_it l there on in
        let own_is : l.own ≡ Some own = ap (λ (z : LeaseState). z.own) (sym its.told) ∙ has in
        let all = first_shows h.config.layout l.pair bytes step first once its.second in
        let shown : blocks_shown h.config.layout l.pair its.waited.step a ≡ Some all.0 = ap (λ s. blocks_shown h.config.layout l.pair s a) its.at ∙ ap (blocks_shown h.config.layout l.pair step) read ∙ all.1 in
        ap (λ (z : LeaseState). some_is (λ (t : TopNumber). t.instance == own.lver) z.top) its.told
        ∙ ap (λ o. some_is (λ (t : TopNumber). t.instance == own.lver) (top_hearing l o)) shown
        ∙ ap (λ o. some_is (λ (t : TopNumber). t.instance == own.lver) (option_map (λ b. record { instance = b.lver; mbal = top_mbal b.lver all.0 }) o)) own_is ∙ number_itself own.lver

    -- After a read that is to be made once more what it gave is kept, and it was made once.
    pub told_first : (l : LeaseState) → Contains m.leases l → is_lease_on (spot_of_call x.setting.layout call_told.0) l ≡ true → is_some (kept_heard h.config.layout step a) ≡ true
        → (is_some (lease_told h m (is_heeded_by h c) c a l).pair.first && not (lease_told h m (is_heeded_by h c) c a l).pair.again) ≡ true
    told_first l there on some =
        let its = hears_it l there on in
        ap (λ (z : LeaseState). is_some z.pair.first && not z.pair.again) its.told
        ∙ both (is_some (option_or (kept_heard h.config.layout its.waited.step a) l.pair.first)) (not l.pair.again)
        (first_is (kept_heard h.config.layout its.waited.step a) (ap (λ s. is_some (kept_heard h.config.layout s a)) its.at ∙ some)) (ap not (its.again ∙ kept_of_first h.config.layout step a some)) where
          first_is : (o : Option (List (Option PairBlock))) → is_some o ≡ true → is_some (option_or o l.pair.first) ≡ true
          first_is None is = absurd (false_is_true is)
          first_is (Some pairs) is = refl

    -- There is one.
    some_lease : (l : LeaseState) × Contains m.leases l × (is_lease_on (spot_of_call x.setting.layout call_told.0) l ≡ true)
    some_lease =
        any_found (is_lease_on (spot_of_call x.setting.layout call_told.0)) m.leases
        (sym (any_mapped (same_spot (spot_of_call x.setting.layout call_told.0)) (λ (l : LeaseState). l.spot) m.leases)
        ∙ ap (list_any (same_spot (spot_of_call x.setting.layout call_told.0))) (sym (keeps.members k m to.there).spots)
        ∙ spot_there x.setting.layout (calls_of (seen x) m.who) call_told.0 call_told.1 works)

    lease_at : (l : LeaseState) × (find (is_lease_on (spot_of_call x.setting.layout call_told.0)) (member_hearing h c a m).leases ≡ Some l) × (l.waiting ≡ None)
    lease_at =
        let p : LeaseState → Bool = is_lease_on (spot_of_call x.setting.layout call_told.0) in
        let ls : List LeaseState = (member_hearing h c a m).leases in
        let has = value_there (find p ls) (found_some p ls (told some_lease.0) (contains_map told m.leases some_lease.0 some_lease.1) (ap (same_spot (spot_of_call x.setting.layout call_told.0)) (told_spot some_lease.0) ∙ some_lease.2)) in
        let inside = find_inside p ls has.0 has.1 in
        let old = in_map told m.leases has.0 inside.0 in
        (has.0, has.1, ap (λ (z : LeaseState). z.waiting) (sym old.2) ∙ told_none old.0 old.1 (ap (same_spot (spot_of_call x.setting.layout call_told.0)) (sym (told_spot old.0)) ∙ (ap p old.2 ∙ inside.1)))

    -- By the layout that is kept, and the call that is kept.
    lease_by : (g : Layout) → x.setting.layout ≡ g → (l : LeaseState) × (find (is_lease_on (spot_in g c)) (member_hearing h c a m).leases ≡ Some l) × (l.waiting ≡ None)
    lease_by g same =
        subst (λ y. (l : LeaseState) × (find (is_lease_on (spot_in y c)) (member_hearing h c a m).leases ≡ Some l) × (l.waiting ≡ None)) same
        (subst (λ z. (l : LeaseState) × (find (is_lease_on (spot_in x.setting.layout z)) (member_hearing h c a m).leases ≡ Some l) × (l.waiting ≡ None)) call_told.3 lease_at)

  -- ---- one more call

  module _ (not_refused : m.refused ≡ false) (work : Work) (step next : LeaseStep) (offset : ℕ) (op : Op) (is : c.purpose ≡ Lease work step)
      (goes : goes_on_in (heard_answer number a h) (member_hearing h c a m) work ≡ true) (may : GoesOn (heard_answer number a h) (member_hearing h c a m) c work next offset op) where
    abbrev made : Submitted
    made = next_submitted (heard_answer number a h) m.who.number c.path (Lease work next) offset op

    layouts : x.setting.layout ≡ (heard_answer number a h).config.layout
    layouts = sym (layout_is (Told number a) (heard_answer number a h) (with_input (Told number a) x) (stands number c a h x k m to not_refused))

    its_lease : (l : LeaseState) × (find (is_lease_on (area_of (heard_answer number a h) c)) (member_hearing h c a m).leases ≡ Some l) × (l.waiting ≡ None)
    its_lease = lease_by work step is (subst (λ (g : Layout). 0 < g.area) (sym layouts) may.room) (heard_answer number a h).config.layout layouts

    job_fits : (w : Work) → c.purpose ≡ Lease w step → goes_on_in (heard_answer number a h) (member_hearing h c a m) w ≡ true
        → IsTrue (option_map_or (λ j. is_idle_job (heard_answer number a h) j || is_leaving_alone (heard_answer number a h) (member_hearing h c a m) j) (job_of (Lease w next)) true)
    job_fits (ForJob j) its goes_on =
        ap (λ b. b || is_leaving_alone (heard_answer number a h) (member_hearing h c a m) j)
        (idle_job number c a h x k m to not_refused j (ap (λ p. some_is (λ q. q == j) (job_of p)) its ∙ number_itself j) goes_on)
    job_fits Settling its goes_on = refl

    generation_fits : (o : Op) → IsTrue (is_lease_op o) → IsTrue (fits_generation (member_hearing h c a m) (next_submitted (heard_answer number a h) m.who.number c.path (Lease work next) offset o))
    generation_fits (ReadSectors n) its = refl
    generation_fits (WriteRecord (BlockIs b)) its = refl
    generation_fits (WriteRecord (LeaderIs l)) its = refl
    generation_fits (WriteRecord (PairIs q)) its = refl
    generation_fits (WriteRecord (PairLeaderIs l)) its = refl
    generation_fits (WriteRecord (DeltaIs d)) its = absurd (false_is_true its)
    generation_fits (WriteRecord (RequestIs q)) its = absurd (false_is_true its)
    generation_fits (WriteRecord (ValueIs v)) its = absurd (false_is_true its)

    value_fits : (o : Op) → IsTrue (is_lease_op o) → IsTrue (fits_value (heard_answer number a h).config.layout (member_hearing h c a m) (next_submitted (heard_answer number a h) m.who.number c.path (Lease work next) offset o))
    value_fits (ReadSectors n) its = refl
    value_fits (WriteRecord (BlockIs b)) its = refl
    value_fits (WriteRecord (LeaderIs l)) its = refl
    value_fits (WriteRecord (PairIs q)) its = refl
    value_fits (WriteRecord (PairLeaderIs l)) its = refl
    value_fits (WriteRecord (DeltaIs d)) its = absurd (false_is_true its)
    value_fits (WriteRecord (RequestIs q)) its = absurd (false_is_true its)
    value_fits (WriteRecord (ValueIs v)) its = absurd (false_is_true its)

    some_room : (n : ℕ) → 0 < n → nat_lt 0 n ≡ true
    some_room n less = grind (arith, less)

    lease_fits : IsTrue (fits_lease (heard_answer number a h).config.layout (member_hearing h c a m) made)
    lease_fits =
        both (nat_lt 0 (heard_answer number a h).config.layout.area)
        (option_map_or (λ l. is_none l.waiting && follows_read made l) (find (is_lease_on (spot_of_call (heard_answer number a h).config.layout made)) (member_hearing h c a m).leases) (not (is_at Phase2_write made)))
        (some_room (heard_answer number a h).config.layout.area may.room)
        (subst (λ n. option_map_or (λ l. is_none l.waiting && follows_read made l) (find (is_lease_on (record { path = c.path; base = n })) (member_hearing h c a m).leases) (not (is_at Phase2_write made)) ≡ true) (sym may.near)
        (subst (λ o. option_map_or (λ l. is_none l.waiting && follows_read made l) o (not (is_at Phase2_write made)) ≡ true) (sym its_lease.1)
        (both (is_none its_lease.0.waiting) (follows_read made its_lease.0) (ap (λ o. is_none o) its_lease.2) (may.follows its_lease.0 its_lease.1))))

    again_fits : IsTrue (fits_again (heard_answer number a h).config.layout (member_hearing h c a m) made)
    again_fits =
        subst (λ n. (not (is_second next) || option_map_or (λ l. is_some l.pair.first && not l.pair.again) (find (is_lease_on (record { path = c.path; base = n })) (member_hearing h c a m).leases) false) ≡ true) (sym may.near)
        (subst (λ o. (not (is_second next) || option_map_or (λ l. is_some l.pair.first && not l.pair.again) o false) ≡ true) (sym its_lease.1) (may.again its_lease.0 its_lease.1))

    goes_on : MayWork (heard_answer number a h) m.who (area_of (heard_answer number a h) c) work next offset op
    goes_on =
        record {
          place = (place number c a h x k m to not_refused).0;
          member = member_hearing h c a m;
          there = (place number c a h x k m to not_refused).1;
          its = refl;
          fits = record { later = refl; job = job_fits work is goes; turn = refl; generation = generation_fits op may.its; value = value_fits op may.its; lease = lease_fits; again = again_fits };
        }

pub leases_set_free : LeasesSetFree
leases_set_free =
    record {
      lease = λ number c a h x k m work step to is room. (let same : x.setting.layout ≡ h.config.layout = ap (λ (z : Config). z.layout) to.stands.keeps.config in
          lease_by number c a h x k m to work step is (subst (λ (g : Layout). 0 < g.area) (sym same) room) h.config.layout same);
      work = λ number c a h x k m work step next offset op to not_refused is goes may. goes_on number c a h x k m to not_refused work step next offset op is goes may;
    }
