-- The calls and replies of a lease's answer fit: its lease waits for nothing, its job runs, and phase 2 follows a read.
use Rattle.sl_host_law.proofs.Answers.AnswersFollow.{place, stands}
use Rattle.sl_host_law.proofs.Answers.DecisionsAreCarried.{layout_is}
use Rattle.sl_host_law.proofs.Answers.LeaseAnswersFollow.{lease_answers_follow}
use Rattle.sl_host_law.proofs.Answers.LeasesSetFree.{call_told, leases_set_free, told_first, told_spot, told_top}
use Rattle.sl_host_law.proofs.Answers.PhaseTwoFollows.{phase_two_follows, within_block, within_late, within_once}
use Rattle.sl_host_law.proofs.SharedFacts.RecordsOfKinds.{block_cases, leader_cases}
use Rattle.sl_host_law.specs.Answers.AnswersFollow.{IsAnswerTo}
use Rattle.sl_host_law.specs.Answers.LeaseAnswers.{area_of}
use Rattle.sl_host_law.specs.Answers.LeaseDecisions.{MayAnswer, MayCarryLease, block_at, read_from, record_at, sectors_read, turn_next}
use Rattle.sl_host_law.specs.Answers.LeasesGoOn.{IfConverted, IsPlaced, LeasesGoOn}
use Rattle.sl_host_law.specs.Answers.LeasesSetFree.{GoesOn, is_lease_op}
use Rattle.sl_host_law.specs.Answers.PhaseTwo.{IsAfterRead, IsOnceFor}
use Rattle.sl_area.specs.AreaSizes.{Layout}
use Rattle.sl_area.specs.AreaLayout.{leader_offset}
use Rattle.sl_area.specs.AreaRecords.{leader_record}
use Rattle.sl_host_law.proofs.Calls.MemberCalls.SpotsMore.{one_spot}
use Rattle.sl_host_law.specs.Calls.MemberCalls.{follows_read}
use Rattle.sl_due.specs.Steps.{Step, seen, with_input}
use Rattle.sl_host_law.proofs.SharedFacts.PlainLists.{at_some}
use Rattle.sl_host_state.specs.HeardInputs.{heard_answer, is_heeded_by, kept_heard, lease_told, member_hearing}
use Rattle.sl_host_state.specs.KeptState.{HostState, LeaseState, MemberState}
use Rattle.sl_host_state.specs.MadeEffects.{is_lease_on, next_submitted}
use Rattle.sl_host_state.specs.HostStands.{LeaseStands}
use Rattle.sl_host_state.specs.declared.kept_parts.OpenCall.{OpenCall}
use Rattle.sl_trace.specs.LeaseDecisions.{LeasePlace, asked_again, lease_next, within_turn}
use Rattle.sl_trace.specs.Leases.{LeaseKnown, Phase2_write, block_of_record, block_submitted, block_written, is_at, is_second, lease_calls, spot_of_call}
use Rattle.sl_trace.specs.declared.lease.Aim.{Aim}
use Rattle.sl_trace.specs.declared.lease.LeaseNext.TheVariants.{AnswerJob, BecomeExclusive, BecomeShared, GrantJob, Nothing, ReadFor, WriteBlock, WriteLeader}
use Rattle.sl_trace.specs.declared.lease.LeaseNext.{LeaseNext}
use Rattle.sl_words.proofs.Lists.{find_inside, in_map}
use Rattle.sl_host_law.specs.Questions.Answers.{known_in, place_in, spot_in}
use Rattle.sl_host_law.specs.Questions.Jobs.{goes_on_in}
use Rattle.sl_host_law.specs.Steps.Leases.{lease_at}
use Rattle.sl_sector.specs.declared.sector.Block.{Block}
use Rattle.sl_sector.specs.declared.sector.Rec.{Rec}
use Rattle.sl_trace.specs.Sessions.{me}
use Rattle.sl_trace.specs.Traces.{Submitted, is_before_input, same_spot, work_job}
use Rattle.sl_trace.specs.declared.effects.LeaseStep.TheVariants.{ClearMode, FreeLeader, Phase1Read, Phase1Write, Phase2Read, Phase2Write, ReadAgain, ReadArea, ReadBeforeBlock, ReadBeforeFree, SetMode, TakeLeader}
use Rattle.sl_trace.specs.declared.effects.LeaseStep.{LeaseStep}
use Rattle.sl_trace.specs.declared.effects.Op.TheVariants.{ReadSectors, WriteRecord}
use Rattle.sl_trace.specs.declared.effects.Op.{Op}
use Rattle.sl_trace.specs.declared.effects.Purpose.TheVariants.{Lease}
use Rattle.sl_trace.specs.declared.effects.Spot.{Spot}
use Rattle.sl_trace.specs.declared.effects.Work.TheVariants.{ForJob, Settling}
use Rattle.sl_trace.specs.declared.effects.Work.{Work}
use Rattle.sl_trace.specs.declared.input.Answer.{Answer}
use Rattle.sl_trace.specs.declared.input.Input.TheVariants.{Answer as Told, Wake}
use Rattle.sl_trace.specs.declared.reply.Reply.TheVariants.{Granted}
use Rattle.sl_trace.specs.declared.reply.Reply.{Reply}
use Rattle.sl_words.proofs.CaseLaws.{none_some, some_value}
use Rattle.sl_words.specs.Words.{some_is}
use Rattle.sl_trace.specs.declared.effects.LeaseRead.TheVariants.{OfArea, OfBlock, OfFree, OfPhase1, OfPhase2}
use Rattle.std.proofs.Common.{ap, inl, refl, subst, sym, ◌∙◌}
use Rattle.std.specs.List.{list_any}
use Rattle.std.specs.Option.{option_map_or}
use Rattle.std.specs.Prelude.{Bool, Contains, IsTrue, None, Option, Some, false, find, is_some, not, true, ℕ, ◌&&◌, ◌<◌, ◌==◌, ◌||◌, ◌≡◌}

module _ (number : ℕ) (c : OpenCall) (a : Answer) (h : HostState) (x : Step) (k : ℕ) (m : MemberState) (work : Work) (step : LeaseStep) (to : IsAnswerTo number c a h x k m) (not_refused : m.refused ≡ false)
    (is : c.purpose ≡ Lease work step) (goes : goes_on_in (heard_answer number a h) (member_hearing h c a m) work ≡ true)
    (placed : IsPlaced (heard_answer number a h) (member_hearing h c a m) c) where
  -- ---- replies

  job_runs : (w : Work) (j : ℕ) → work_job w ≡ Some j → goes_on_in (heard_answer number a h) (member_hearing h c a m) w ≡ true → list_any (λ z. z.number == j) (heard_answer number a h).jobs ≡ true
  job_runs (ForJob n) j its goes_on = subst (λ z. list_any (λ y. y.number == z) (heard_answer number a h).jobs ≡ true) (some_value n j its) goes_on
  job_runs Settling j its goes_on = absurd (none_some j its)

  may_say : (r : Reply) → is_before_input r ≡ false → MayAnswer (Told number a) (heard_answer number a h) (with_input (Told number a) x) work r
  may_say r late j its = record { runs = job_runs work j its goes; heed = inl late; line = tt }

  -- ---- phase 2

  layouts : (heard_answer number a h).config.layout ≡ x.setting.layout
  layouts = layout_is (Told number a) (heard_answer number a h) (with_input (Told number a) x) (stands number c a h x k m to not_refused)

  config : (heard_answer number a h).config.layout ≡ h.config.layout
  config = layouts ∙ sym (layout_is Wake h x to.stands)

  spots : area_of (heard_answer number a h) c ≡ spot_of_call x.setting.layout (call_told number c a h x k m to).0
  spots = ap (λ g. spot_in g c) layouts ∙ ap (λ z. spot_in x.setting.layout z) (sym (call_told number c a h x k m to).3)

  its_top : (b : Block) → IsAfterRead (heard_answer number a h).config.layout (known_in (heard_answer number a h) (member_hearing h c a m) (with_input (Told number a) x) (area_of (heard_answer number a h) c)) step a b → (l : LeaseState)
      → find (is_lease_on (area_of (heard_answer number a h) c)) (member_hearing h c a m).leases ≡ Some l → some_is (λ t. t.instance == b.lver) l.top ≡ true
  its_top b r l there =
      let new : HostState = heard_answer number a h in
      let hears : MemberState = member_hearing h c a m in
      let told : LeaseState → LeaseState = lease_told h m (is_heeded_by h c) c a in
      let at : Spot = area_of new c in
      let inside = find_inside (is_lease_on at) hears.leases l there in
      let old = in_map told m.leases l inside.0 in
      let here = at_some hears.leases l inside.0 in
      let stands_l : LeaseStands x.setting.layout m.who.lockspace (me (seen (with_input (Told number a) x)) m.who) l (lease_calls x.setting (seen (with_input (Told number a) x)) m.who l.spot) =
      ((stands number c a h x k m to not_refused).keeps.members (place number c a h x k m to not_refused).0 hears (place number c a h x k m to not_refused).1).leases here.0 l here.1
      in
      let own : l.own ≡ Some r.own =
      sym stands_l.own ∙ (ap (λ p. block_submitted (lease_calls x.setting (seen (with_input (Told number a) x)) m.who p)) (sym (one_spot at l.spot inside.1)) ∙ r.submitted)
      in
      let on : is_lease_on (spot_of_call x.setting.layout (call_told number c a h x k m to).0) old.0 ≡ true =
      subst (λ p. same_spot p old.0.spot ≡ true) spots
      (ap (same_spot at) (sym (told_spot number c a h x k m to old.0)) ∙ (ap (λ (z : LeaseState). same_spot at z.spot) old.2 ∙ inside.1))
      in
      let top = told_top number c a h x k m to work step is (subst (λ (g : Layout). 0 < g.area) layouts placed.room) old.0 old.1 on r.bytes r.read r.at
      (subst (λ g. asked_again g r.bytes step ≡ None) config r.given) r.own (ap (λ (z : LeaseState). z.own) old.2 ∙ own) in
      subst (λ n. some_is (λ t. t.instance == n) l.top ≡ true) r.instance
      (ap (λ (z : LeaseState). some_is (λ t. t.instance == r.own.lver) z.top) (sym old.2) ∙ top)

  -- ---- what is decided

  -- A call that is not of phase 2 follows as it is.
  abbrev made : LeaseStep → ℕ → Op → Submitted
  made s offset op = next_submitted (heard_answer number a h) m.who.number c.path (Lease work s) offset op

  free_to : (s : LeaseStep) (offset : ℕ) (op : Op) → is_at Phase2_write (made s offset op) ≡ false → (l : LeaseState) → IsTrue (follows_read (made s offset op) l)
  free_to s offset op other l =
      ap (λ b. not b || option_map_or (λ z. some_is (λ t. t.instance == z.lver) l.top) (block_written (made s offset op)) true) other

  abbrev new : HostState
  new = heard_answer number a h

  abbrev hears : MemberState
  hears = member_hearing h c a m

  -- What is known, and the place of its area.
  abbrev area : Spot
  area = area_of (heard_answer number a h) c

  abbrev place_now : LeasePlace
  place_now = place_in (heard_answer number a h) (member_hearing h c a m)

  abbrev known_now : LeaseKnown
  known_now = known_in (heard_answer number a h) (member_hearing h c a m) (with_input (Told number a) x) (area_of (heard_answer number a h) c)

  abbrev decided_on : Aim → LeaseNext
  decided_on aim = lease_next place_now known_now aim c.number c.lver step a

  -- A second read is made by the answer of a first one, of which then something is kept.
  once_by : (aim : Aim) (next : LeaseNext) → next ≡ within_turn place_now known_now aim (decided_on aim) → IsOnceFor (kept_heard h.config.layout step a) next
  once_by aim next decided =
      subst (IsOnceFor (kept_heard h.config.layout step a)) (sym decided)
      (within_once place_now known_now aim (decided_on aim) (kept_heard h.config.layout step a)
      (subst (λ g. IsOnceFor (kept_heard g step a) (decided_on aim)) config (phase_two_follows.once place_now known_now aim c.number c.lver step a)))

  -- The lease is one that was there.
  told_lease : (l : LeaseState) → find (is_lease_on (area_of (heard_answer number a h) c)) (member_hearing h c a m).leases ≡ Some l
      → (old : LeaseState) × Contains m.leases old × (lease_told h m (is_heeded_by h c) c a old ≡ l) × (is_lease_on (spot_of_call x.setting.layout (call_told number c a h x k m to).0) old ≡ true)
  told_lease l there =
      let inside = find_inside (is_lease_on area) hears.leases l there in
      let old = in_map (lease_told h m (is_heeded_by h c) c a) m.leases l inside.0 in (
        old.0,
        old.1,
        old.2,
        subst (λ p. same_spot p old.0.spot ≡ true) spots (ap (same_spot area) (sym (told_spot number c a h x k m to old.0)) ∙ (ap (λ (z : LeaseState). same_spot area z.spot) old.2 ∙ inside.1)),
      )

  finds_first : (s : LeaseStep) → IsTrue (not (is_second s) || is_some (kept_heard h.config.layout step a)) → (l : LeaseState)
      → find (is_lease_on (area_of (heard_answer number a h) c)) (member_hearing h c a m).leases ≡ Some l → IsTrue (not (is_second s) || is_some l.pair.first && not l.pair.again)
  finds_first s once l there = by (is_second s) once where
    by : (b : Bool) → (not b || is_some (kept_heard h.config.layout step a)) ≡ true → (not b || is_some l.pair.first && not l.pair.again) ≡ true
    by false some = refl
    by true some =
        let old = told_lease l there in
        ap (λ (z : LeaseState). is_some z.pair.first && not z.pair.again) (sym old.2)
        ∙ told_first number c a h x k m to work step is (subst (λ (g : Layout). 0 < g.area) layouts placed.room) old.0 old.1 old.3 some

  -- One that is no second read wants nothing kept.
  made_first : (s : LeaseStep) → is_second s ≡ false → (l : LeaseState) → IsTrue (not (is_second s) || is_some l.pair.first && not l.pair.again)
  made_first s once l = ap (λ b. not b || is_some l.pair.first && not l.pair.again) once

  writes_block : (s : LeaseStep) (b : Block) → is_second s ≡ false
      → ((r : Rec) → block_of_record r ≡ Some b → (l : LeaseState) → find (is_lease_on (area_of (heard_answer number a h) c)) (member_hearing h c a m).leases ≡ Some l
      → IsTrue (follows_read (made s (block_at new hears area) (WriteRecord r)) l))
      → GoesOn (heard_answer number a h) (member_hearing h c a m) c work s (block_at new hears area) (WriteRecord (record_at new hears area b))
  writes_block s b once follows =
      record {
        room = placed.room;
        its = block_cases (λ r. is_lease_op (WriteRecord r) ≡ true) new.config.layout (turn_next hears area) hears.who.lockspace (lease_at hears area).name b refl refl;
        again = λ l there. made_first s once l;
        near = placed.block (turn_next hears area);
        follows = follows (record_at new hears area b) (block_cases (λ r. block_of_record r ≡ Some b) new.config.layout (turn_next hears area) hears.who.lockspace (lease_at hears area).name b refl refl);
      }

  may : (aim : Aim) (next : LeaseNext) → next ≡ within_turn place_now known_now aim (decided_on aim)
      → IfConverted (Told number a) (heard_answer number a h) (with_input (Told number a) x) (member_hearing h c a m) c work next
      → MayCarryLease (Told number a) (heard_answer number a h) (with_input (Told number a) x) (member_hearing h c a m) (area_of (heard_answer number a h) c) work next
  may aim Nothing decided converts = tt
  may aim (ReadFor s) decided converts =
      leases_set_free.work number c a h x k m work step s (read_from new area s) (ReadSectors (sectors_read new s)) to not_refused is goes
      (record { room = placed.room; its = refl; again = finds_first s (once_by aim (ReadFor s) decided); near = placed.reads s; follows = λ l there. reads_follow (is_at Phase2_write (made s (read_from new area s) (ReadSectors (sectors_read new s)))) })
    where
      reads_follow : (b : Bool) → (not b || true) ≡ true
      reads_follow true = refl
      reads_follow false = refl
  may aim (WriteBlock s b) decided converts = (
    leases_set_free.work number c a h x k m work step s (block_at new hears area) (WriteRecord (record_at new hears area b)) to not_refused is goes
        (writes_block s b (once_by aim (WriteBlock s b) decided) (λ r writes l there. by s (within_block place_now known_now aim (decided_on aim) s b decided) r writes l there)),
    λ paired. placed.leader,
  ) where
    by : (s2 : LeaseStep) → WriteBlock s2 b ≡ decided_on aim → (r : Rec) → block_of_record r ≡ Some b → (l : LeaseState)
        → find (is_lease_on (area_of (heard_answer number a h) c)) (member_hearing h c a m).leases ≡ Some l → IsTrue (follows_read (made s2 (block_at new hears area) (WriteRecord r)) l)
    by Phase2Write is_it r writes l there =
        ap (λ o. option_map_or (λ z. some_is (λ t. t.instance == z.lver) l.top) o true) writes
        ∙ its_top b (phase_two_follows.second place_now known_now aim c.number c.lver step a b (sym is_it)) l there
    by (ReadArea name) is_it r writes l there = refl
    by ReadBeforeFree is_it r writes l there = refl
    by ReadBeforeBlock is_it r writes l there = refl
    by (ReadAgain (OfArea name)) is_it r writes l there = refl
    by (ReadAgain OfFree) is_it r writes l there = refl
    by (ReadAgain OfBlock) is_it r writes l there = refl
    by (ReadAgain OfPhase1) is_it r writes l there = refl
    by (ReadAgain OfPhase2) is_it r writes l there = refl
    by Phase1Read is_it r writes l there = refl
    by Phase1Write is_it r writes l there = refl
    by Phase2Read is_it r writes l there = refl
    by TakeLeader is_it r writes l there = refl
    by SetMode is_it r writes l there = refl
    by FreeLeader is_it r writes l there = refl
    by ClearMode is_it r writes l there = refl
  may aim (WriteLeader s l) decided converts =
      leases_set_free.work number c a h x k m work step s (leader_offset area.base) (WriteRecord (leader_record new.config.layout l)) to not_refused is goes
      (record {
        room = placed.room;
        its = leader_cases (λ r. is_lease_op (WriteRecord r) ≡ true) new.config.layout l refl refl;
        again = λ z there. made_first s (once_by aim (WriteLeader s l) decided) z;
        near = placed.leader;
        follows = λ z there. follows_none (is_at Phase2_write (made s (leader_offset area.base) (WriteRecord (leader_record new.config.layout l)))) z (block_of_record (leader_record new.config.layout l))
            (leader_cases (λ r. block_of_record r ≡ None) new.config.layout l refl refl);
      }) where
        follows_none : (b : Bool) (z : LeaseState) (o : Option Block) → o ≡ None → (not b || option_map_or (λ y. some_is (λ t. t.instance == y.lver) z.top) o true) ≡ true
        follows_none true z o none = ap (λ q. option_map_or (λ y. some_is (λ t. t.instance == y.lver) z.top) q true) none
        follows_none false z o none = refl
  may aim (AnswerJob r) decided converts =
      may_say r (within_late place_now known_now aim (decided_on aim) r (phase_two_follows.late place_now known_now aim c.number c.lver step a r) decided)
  may aim (GrantJob mode lver) decided converts = may_say (Granted lver) refl
  may aim (BecomeShared lver l) decided converts = converts
  may aim (BecomeExclusive lver b) decided converts = converts

pub leases_go_on : LeasesGoOn
leases_go_on number c a h x k m work step aim next to not_refused is goes aims decided placed converts =
    lease_answers_follow.going number c a h x k m work step aim next to not_refused is goes aims decided (may number c a h x k m work step to not_refused is goes placed aim next decided converts)
