-- What an answer asks of a host is known: before the host hears it, and as it has heard it.
use Rattle.sl_area.specs.AreaSizes.{Layout, layout_of}
use Rattle.sl_due.specs.Steps.{with_input}
use Rattle.sl_host_answers.specs.Facts.{LeaseKnown, LeaseRead as ReadOfLease, ReadKnown, RequestKnown, SurveyKnown, WorkKnown}
use Rattle.sl_host_law.proofs.SharedFacts.PlainLists.{all_from}
use Rattle.sl_host_law.specs.StepParts.ExpectedIsOpen.{IsAnswerOf}
use Rattle.sl_host_law.specs.Questions.Answers.{spot_in}
use Rattle.sl_host_law.specs.Replies.Answers.{FitsCall, IsOpen}
use Rattle.sl_host_law.specs.Steps.Leases.{blocks_at, kept_blocks, lease_at}
use Rattle.sl_host_state.specs.HeardInputs.{heard_answer}
use Rattle.sl_host_state.specs.KeptState.{HostKept, HostState, LeaseState, MemberState, state_of}
use Rattle.sl_host_state.specs.HostStands.{is_kept_of}
use Rattle.sl_host_state.specs.declared.kept_parts.JobState.{JobState}
use Rattle.sl_host_state.specs.declared.kept_parts.OpenCall.{OpenCall}
use Rattle.sl_host_step.proofs.StepsMayCome.{IsAtInput}
use Rattle.sl_host_work.proofs.ReadsGive.{blocks_given, blocks_kept}
use Rattle.sl_host_work.specs.LeaseQuestions.{MayAsk, ReadStands}
use Rattle.sl_host_work.specs.SectorPlaces.{IsPlaced}
use Rattle.sl_lease.specs.LeaseQuestions.{TopStands}
use Rattle.sl_lease.specs.Bounds.{IsInstance}
use Rattle.sl_lease.specs.Steps.{is_read_step}
use Rattle.sl_member.specs.HostMembers.{member_with}
use Rattle.sl_words.proofs.Lists.{find_inside}
use Rattle.sl_sector.specs.declared.sector.Block.{Block}
use Rattle.sl_step_law.proofs.AnswersAreAwaited.{answers_are_awaited}
use Rattle.sl_step_law.proofs.AnswersAreKnown.{answers_are_known}
use Rattle.sl_step_law.proofs.HostsAreKnown.{hosts_are_known}
use Rattle.sl_step_law.proofs.LeaseAnswersAreKnown.{lease_answers_are_known}
use Rattle.sl_step_law.proofs.MembersAreKnown.{members_are_known}
use Rattle.sl_step_law.proofs.MomentsAreKnown.{moments_are_known}
use Rattle.sl_step_law.proofs.PlacesAreKnown.{places_are_known}
use Rattle.sl_step_law.specs.LeaseAnswers.{LeaseHeard}
use Rattle.sl_step_law.specs.AnswersAwaited.{IsMembersCall}
use Rattle.sl_step_law.specs.Moments.{IsMoment}
use Rattle.sl_trace.specs.LeaseDecisions.{asked_again}
use Rattle.sl_trace.specs.declared.effects.LeaseRead.{LeaseRead}
use Rattle.sl_trace.specs.declared.effects.LeaseStep.{LeaseStep}
use Rattle.sl_trace.specs.declared.effects.Purpose.TheVariants.{Lease}
use Rattle.sl_trace.specs.declared.effects.Work.{Work}
use Rattle.sl_trace.specs.declared.input.Answer.TheVariants.{Read, Written}
use Rattle.sl_trace.specs.declared.input.Answer.{Answer}
use Rattle.sl_trace.specs.declared.input.Input.TheVariants.{Answer as Told, Wake}
use Rattle.sl_host.specs.BookQuestions.{state_in}
use Rattle.sl_host.specs.HeardAnswers.{AreWaiting, MayHear, MemberAwaits}
use Rattle.sl_words.proofs.CaseLaws.{some_value}
use Rattle.sl_words.specs.Bounds.{moments}
use Rattle.sl_words.specs.Words.{some_is}
use Rattle.std.proofs.Common.{ap, refl, subst, sym, ◌∙◌}
use Rattle.std.proofs.lemmas.Bool.{eqb-true}
use Rattle.std.specs.Prelude.{Contains, List, None, Option, Some, find, is_some, true, ℕ, ◌<◌, ◌==◌, ◌≡◌}

module _ (now number : ℕ) (answer : Answer) (k : HostKept) (c : OpenCall) (a : IsAtInput now (Told number answer) k) (opens : IsOpen (state_in k) number c) where
  moment : IsMoment Wake (state_of a.read k) a.step
  moment = moments_are_known.ready (state_of a.read k) a.step a.ready

  found : Contains k.unanswered c × ((c.number == number) ≡ true)
  found = find_inside (λ (d : OpenCall). d.number == number) k.unanswered c opens

  -- The answer is one to this call.
  pub answers : IsAnswerOf (layout_of k.config.sizes) answer c
  answers =
      let one = answers_are_known.open_one (state_of a.read k) a.step number answer a.ready a.expected in
      subst (IsAnswerOf (layout_of k.config.sizes) answer) (some_value one.0 c (sym one.1 ∙ opens)) one.2

  pub fits : FitsCall (layout_of k.config.sizes) answer c
  fits = answers_are_known.fits (state_of a.read k) a.step c answer a.ready found.0 answers a.bytes

  pub asked_in_time : c.reading < moments
  asked_in_time = lease_answers_are_known.times (state_of a.read k) a.step number c a.ready opens

  pub in_time : k.reading < moments
  in_time = hosts_are_known.timely Wake (state_of a.read k) a.step moment

  -- A write of a lease is of an instance.
  pub instance : (work : Work) (step : LeaseStep) → c.purpose ≡ Lease work step → answer ≡ Written → IsInstance c.lver
  instance work step for is = lease_answers_are_known.instances (state_of a.read k) a.step number c work step a.ready opens for (subst (λ z. IsAnswerOf (layout_of k.config.sizes) z c) is answers)

  -- A read of a lease is at a step that reads.
  pub reads : (work : Work) (step : LeaseStep) (bytes : List ℕ) → c.purpose ≡ Lease work step → answer ≡ Read bytes → is_read_step step ≡ true
  reads work step bytes for is =
      let n = subst (λ z. IsAnswerOf (layout_of k.config.sizes) z c) is answers in
      sym (lease_answers_are_known.steps (state_of a.read k) a.step number c work step a.ready opens for) ∙ ap (λ o. is_some o) n.1

  -- ---- before it is heard

  its : (m : MemberState) → Contains k.members m → (c.session == m.who.number) ≡ true → IsMembersCall (state_of a.read k) number c m
  its m there mine = record { is_open = opens; there = there; its = mine }

  awaits : (m : MemberState) → Contains k.members m → (c.session == m.who.number) ≡ true → MemberAwaits (state_in k) c m
  awaits m there mine =
      let w = answers_are_awaited.awaited (state_of a.read k) a.step number c m a.ready (its m there mine) in
      record {
        awaited = record { busy = w.busy; leases = w.leases };
        known = (members_are_known.each Wake (state_of a.read k) a.step m a.ready.stands a.ready.kept there).known;
        leased = λ works. (let l = answers_are_awaited.leased (state_of a.read k) a.step number c m a.ready (its m there mine) works in
            record { lease = l.lease; call = l.call; found = l.found; waits = l.waits; reads = l.reads; again = l.again; second = l.second });
      }

  waiting : AreWaiting c k.jobs
  waiting =
      all_from (λ (j : JobState). some_is (λ w. w.number == c.number) j.waits ≡ is_kept_of j.number c) k.jobs
      (λ j there. lease_answers_are_known.waits (state_of a.read k) a.step number c j a.ready opens there)

  pub may_hear : MayHear k c
  may_hear = record { is_open = opens_own; jobs = waiting; members = awaits } where
    opens_own : IsOpen (state_in k) c.number c
    opens_own = subst (λ n. find (λ (d : OpenCall). d.number == n) k.unanswered ≡ Some c) (sym (eqb-true c.number number found.1)) opens

  -- ---- as it has been heard

  module _ (g : HostKept) (is : state_of a.read g ≡ heard_answer number answer (state_of a.read k)) where
    after : IsMoment (Told number answer) (state_of a.read g) (with_input (Told number answer) a.step)
    after =
        subst (λ h. IsMoment (Told number answer) h (with_input (Told number answer) a.step)) (sym is)
        (moments_are_known.heard (state_of a.read k) a.step number c answer a.ready a.expected opens fits)

    timely : g.reading < moments
    timely = hosts_are_known.timely (Told number answer) (state_of a.read g) (with_input (Told number answer) a.step) after

    pub placed : (m : MemberState) → Contains g.members m → IsPlaced g.config.sizes m.who
    placed m there =
        let z = places_are_known.sessions (Told number answer) (state_of a.read g) (with_input (Told number answer) a.step) m after.stands after.kept there in
        record { id = (z.0, z.1); base = z.2 }

    pub request_known : (j : ℕ) → RequestKnown g j
    request_known j =
        record { timely = timely; command = λ d said. hosts_are_known.commands (Told number answer) (state_of a.read g) (with_input (Told number answer) a.step) j d after said }

    pub survey_known : SurveyKnown g
    survey_known =
        record { timely = timely; based = λ e there. places_are_known.holdings (Told number answer) (state_of a.read g) (with_input (Told number answer) a.step) e after.stands after.kept there }

    module _ (work : Work) (step : LeaseStep) (for : c.purpose ≡ Lease work step) where
      heard : (m : MemberState) → member_with c.session g.members ≡ Some m → LeaseHeard (state_of a.read g) m c step answer
      heard m with =
          let f = find_inside (λ (z : MemberState). z.who.number == c.session) g.members m with in
          subst (λ h. LeaseHeard h m c step answer) (sym is)
          (lease_answers_are_known.by_number (state_of a.read k) a.step number c m answer work step a.ready a.expected opens fits (subst (λ (h : HostState). Contains h.members m) is f.0) f.1 for)

      known : (m : MemberState) (read : List (Option Block)) → member_with c.session g.members ≡ Some m → TopStands (lease_at m (spot_in (layout_of g.config.sizes) c)) read
          → LeaseKnown g (spot_in (layout_of g.config.sizes) c) step read m
      known m read with tops =
          let z = heard m with in
          let asked : MayAsk (state_in g) m (spot_in (layout_of g.config.sizes) c) read =
          record { joined = z.joined; tops = tops; held = z.held; owned = record { named = z.owned; opened = z.opened } }
          in
          record { placed = placed m z.there; area = z.area; asked = asked; named = z.named }

      module _ (bytes : List ℕ) (gives : answer ≡ Read bytes) (m : MemberState) (with : member_with c.session g.members ≡ Some m) where
        abbrev layout : Layout
        layout = layout_of g.config.sizes

        abbrev lease : LeaseState
        lease = lease_at m (spot_in layout c)

        step_reads : is_read_step step ≡ true
        step_reads = reads work step bytes for gives

        stands : ReadStands layout m (spot_in layout c) step bytes
        stands =
            let z = heard m with in
            record { reads = step_reads; again = z.again; kept = z.kept; verified = λ name l sought once given its. z.verified bytes name l gives sought once given its }

        tops_read : TopStands lease (blocks_at layout lease step (Read bytes))
        tops_read = by (asked_again layout bytes step) refl where
          by : (o : Option LeaseRead) → asked_again layout bytes step ≡ o → TopStands lease (blocks_at layout lease step (Read bytes))
          by None once =
              let z = heard m with in
              subst (λ read. TopStands lease read) (blocks_given layout lease step bytes step_reads once z.again z.kept) (z.shown bytes gives step_reads once)
          by (Some read) again = subst (λ read. TopStands lease read) (blocks_kept layout lease step bytes (ap (λ o. is_some o) again)) (heard m with).tops

        read_stands : ReadOfLease g (spot_in layout c) step bytes m
        read_stands = record { stands = stands; known = known m (blocks_at layout lease step (Read bytes)) with tops_read }

      pub read_known : (bytes : List ℕ) → answer ≡ Read bytes → ReadKnown g (spot_in (layout_of g.config.sizes) c) c.session work step bytes
      read_known bytes gives = λ m with goes. read_stands bytes gives m with

      pub work_known : WorkKnown g (spot_in (layout_of g.config.sizes) c) c.session work step
      work_known = λ m with goes. known m (kept_blocks (lease_at m (spot_in (layout_of g.config.sizes) c))) with (heard m with).tops
