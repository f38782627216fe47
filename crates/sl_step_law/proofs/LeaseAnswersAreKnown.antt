-- An answer to a lease's call: the lease that hears it, and what stands behind the call.
use Rattle.sl_area.specs.AreaSizes.{Layout}
use Rattle.sl_due_facts.proofs.Acts.Pairs.DecodedRecords.{ArePairs, leader_is}
use Rattle.sl_due_facts.proofs.Acts.Pairs.GivenByReads.{first_are_pairs}
use Rattle.sl_area.specs.AreaLayout.{is_base}
use Rattle.sl_area.specs.TornLeader.{leader_read}
use Rattle.sl_due_law.proofs.LawfulTraces.LeaderWrites.{hosts_fit}
use Rattle.sl_due_leases.proofs.Grants.WorksByAnswers.{new_spot}
use Rattle.sl_due_leases.proofs.Ways.WayStages.{prior_inside, step_way}
use Rattle.sl_due.specs.Steps.{Step, seen, with_input}
use Rattle.sl_due_leases.proofs.Holdings.LeaseCallers.{on_own_area, spot_aligned}
use Rattle.sl_due_facts.specs.Facts.WayFacts.{AgainWay, Ways, way_context}
use Rattle.sl_host_law.proofs.Answers.AnswersSetFree.{answers_set_free, of_trace}
use Rattle.sl_host_law.proofs.Calls.MemberCalls.SpotsMore.{one_spot}
use Rattle.sl_host_law.proofs.SharedFacts.PlainLists.{at_some, found_some}
use Rattle.sl_host_law.proofs.SharedFacts.SessionNumbers.{placed_by_number}
use Rattle.sl_host_law.proofs.Replies.PlainNumbers.{same_number}
use Rattle.sl_trace.specs.Sessions.{session_numbered, sessions, calls_of, is_call_of}
use Rattle.sl_host_law.proofs.Steps.InputsFollow.{joined_stays}
use Rattle.sl_host_law.specs.Answers.AnswersFollow.{IsAnswerTo}
use Rattle.sl_host_law.specs.Questions.Answers.{spot_in}
use Rattle.sl_host_law.specs.Replies.Answers.{FitsCall, IsOpen}
use Rattle.sl_host_law.specs.Steps.Leases.{kept_blocks, lease_at}
use Rattle.sl_host_law.specs.Steps.InputsFollow.{IsCallOf}
use Rattle.sl_host_state.specs.HeardInputs.{heard_answer, hearing, is_area_step, is_heeded_by, is_over_with, kept_heard, lease_hearing, lease_told, member_hearing, top_hearing}
use Rattle.sl_host_state.specs.KeptState.{Config, HostState, LeaseState, MemberState}
use Rattle.sl_host_state.specs.MadeEffects.{is_lease_on, new_lease}
use Rattle.sl_host_state.proofs.Pairs.{first_is_kept}
use Rattle.sl_host_state.specs.HostStands.{first_read, is_kept_of, kept_call, kept_job, kept_waiting, top_mbal}
use Rattle.sl_host_state.specs.declared.kept_parts.JobState.{JobState}
use Rattle.sl_host_state.specs.declared.kept_parts.LeaseCall.{LeaseCall}
use Rattle.sl_host_state.specs.declared.kept_parts.OpenCall.{OpenCall}
use Rattle.sl_host_state.specs.declared.kept_parts.TopNumber.{TopNumber}
use Rattle.sl_lease.specs.LeaseQuestions.{TopStands, heard_with, leader_given, read_given}
use Rattle.sl_lease.specs.Bounds.{IsInstance}
use Rattle.sl_lease.specs.Side.{is_named}
use Rattle.sl_lease.specs.Steps.{is_first_step, is_read_step}
use Rattle.sl_trace.specs.LeaseDecisions.{asked_again, first_step, step_of_read}
use Rattle.sl_trace.specs.Leases.{block_submitted, block_written, is_leader_of, is_lease_call, is_on, is_second, lease_calls, lease_step, name_sought, spot_of_call}
use Rattle.sl_text.specs.Names.{is_name}
use Rattle.sl_words.specs.Bounds.{moments, most_hosts}
use Rattle.sl_sector.specs.Records.{IsLeader}
use Rattle.sl_sector.specs.declared.sector.Leader.{Leader}
use Rattle.sl_member.specs.Laws.{area_of_call}
use Rattle.sl_words.proofs.Lists.{find_inside, got_inside, in_map, kept as kept_in, kept_inside}
use Rattle.sl_words.proofs.Options.{none_is, some_of}
use Rattle.sl_sector.specs.declared.sector.Block.{Block}
use Rattle.sl_step_law.proofs.AnswersAreAwaited.{answers_are_awaited}
use Rattle.sl_step_law.proofs.BlocksAreInstances.{named_some, written_above}
use Rattle.sl_step_law.proofs.CallsAsk.{calls_ask, made_by}
use Rattle.sl_step_law.proofs.CallsOfInstances.{call_wrote, way_of, write_instance}
use Rattle.sl_step_law.proofs.CallsOfMembers.{IsMembers, calls_are_theirs, members_call}
use Rattle.sl_step_law.proofs.HoldersLeased.{folded, marked}
use Rattle.sl_step_law.proofs.LeasesAreKnown.{lease_stands, leases_are_known, listed, ways}
use Rattle.sl_step_law.proofs.ReadsAreHeard.{first_stays, seeks, told_name, told_top}
use Rattle.sl_step_law.proofs.MomentsAreKnown.{moments_are_known}
use Rattle.sl_step_law.specs.LeaseAnswers.{AnswerArrives, LeaseAnswersAreKnown, LeaseHeard}
use Rattle.sl_step_law.specs.SectorsAsked.{sectors_asked}
use Rattle.sl_step_law.specs.AnswersAwaited.{IsLeasesCall, IsMembersCall}
use Rattle.sl_step_law.specs.Moments.{IsMoment}
use Rattle.sl_step_law.specs.ReadyHosts.{IsReady}
use Rattle.sl_step_law.specs.CallsStand.{EntryStands, WroteBlock, is_look, looks_before_owed}
use Rattle.sl_trace.specs.Traces.{EachEntry, FollowsTrace, Job, Submitted, Trace, call_numbered, is_of_job, job_of, mark, new_call, outstanding, is_expected, running_jobs, submitted, waiting_call}
use Rattle.sl_trace.specs.declared.effects.Call.{Call}
use Rattle.sl_trace.specs.declared.effects.Entry.{Entry}
use Rattle.sl_trace.specs.declared.effects.LeaseRead.TheVariants.{OfArea, OfBlock, OfFree, OfPhase1, OfPhase2}
use Rattle.sl_trace.specs.declared.effects.LeaseStep.TheVariants.{ReadAgain, ReadArea}
use Rattle.sl_trace.specs.declared.effects.LeaseStep.{LeaseStep}
use Rattle.sl_trace.specs.declared.effects.Purpose.TheVariants.{Lease}
use Rattle.sl_trace.specs.declared.effects.Spot.{Spot}
use Rattle.sl_trace.specs.declared.effects.Work.{Work}
use Rattle.sl_trace.specs.declared.input.Answer.TheVariants.{Read}
use Rattle.sl_trace.specs.declared.input.Answer.{Answer}
use Rattle.sl_trace.specs.declared.input.Input.TheVariants.{Answer as Told, Wake}
use Rattle.sl_run_law.proofs.Sessions.CallsAreMade.{calls_are_made}
use Rattle.sl_run_law.specs.Sessions.SessionLaws.{IsMade}
use Rattle.sl_words.proofs.CaseLaws.{none_some, some_value, true_is_false}
use Rattle.sl_words.proofs.WordLaws.{and_true, some_is_true}
use Rattle.sl_words.specs.Words.{is_empty, some_is}
use Rattle.std.proofs.Common.{ap, inl, refl, subst, sym, ◌∙◌}
use Rattle.std.proofs.lemmas.Bool.{eqb-true}
use Rattle.std.proofs.lemmas.Bool.Decides.{Decides-eqb}
use Rattle.std.proofs.lemmas.Slice.Eq.{bytes_eq-Decides}
use Rattle.std.specs.Option.{option_or}
use Rattle.std.specs.Prelude.{Bool, Contains, IsTrue, List, None, Option, Some, cond, false, find, is_none, is_some, length, map, not, option_map, slice_get, true, unwrap_or, bytes_eq, [], ℕ, ◌%◌, ◌&&◌, ◌++◌, ◌<◌, ◌==◌, ◌∷◌, ◌≡◌, ◌≤◌, ◌||◌}

-- ---- a call stays in the trace

stays_once : (e : Entry) (es : Trace) (d : Submitted) → Contains (submitted es) d → (z : Submitted) × Contains (submitted (e ∷ es)) z × (z.call ≡ d.call)
stays_once e es d there =
    let z = marked es e e.input (submitted es) d there in (z.0, folded (length es) e.reading e.effects.calls (mark es e e.input (submitted es)) z.0 z.1, z.2)

stays_in : (later : Trace) (e : Entry) (past : Trace) (d : Submitted) → Contains (submitted past) d → (z : Submitted) × Contains (submitted (later ++ e ∷ past)) z × (z.call ≡ d.call)
stays_in [] e past d there = stays_once e past d there
stays_in (f ∷ later) e past d there =
    let z = stays_in later e past d there in let y = stays_once f (later ++ e ∷ past) z.0 z.1 in (y.0, y.1, y.2 ∙ z.2)

both_true : (p q : Bool) → p ≡ true → q ≡ true → (p && q) ≡ true
both_true true q one also = also
both_true false q one also = absurd cc

-- ---- a lease that is told

told_spot : (h : HostState) (m : MemberState) (heeded : Bool) (c : OpenCall) (a : Answer) (l : LeaseState) → (lease_told h m heeded c a l).spot ≡ l.spot
told_spot h m heeded c a l = by l.waiting where
  chosen : (w : LeaseCall) (b : Bool)
      → (cond b (lease_hearing h.config.layout m.who.lockspace (record { id = m.who.id; generation = m.known.generation }) heeded c a w l) l).spot ≡ l.spot
  chosen w true = refl
  chosen w false = refl

  by : (o : Option LeaseCall)
      → (elim o as (λ z. LeaseState) [
        | None ↦ l
        | Some w ↦ cond (w.number == c.number) (lease_hearing h.config.layout m.who.lockspace (record { id = m.who.id; generation = m.known.generation }) heeded c a w l) l
      ]).spot ≡ l.spot
  by None = refl
  by (Some w) = chosen w (w.number == c.number)

found_told : (f : LeaseState → LeaseState) (at : Spot) → ((l : LeaseState) → (f l).spot ≡ l.spot) → (ls : List LeaseState) → find (is_lease_on at) (map f ls) ≡ option_map f (find (is_lease_on at) ls)
found_told f at same [] = refl
found_told f at same (l ∷ ls) = ap (λ (s : Spot). cond (is_lease_on at (record l { spot = s })) (Some (f l)) (find (is_lease_on at) (map f ls))) (same l) ∙ by (is_lease_on at l) (found_told f at same ls) where
  by : (b : Bool) → find (is_lease_on at) (map f ls) ≡ option_map f (find (is_lease_on at) ls) → cond b (Some (f l)) (find (is_lease_on at) (map f ls)) ≡ option_map f (cond b (Some l) (find (is_lease_on at) ls))
  by true rest = refl
  by false rest = rest

-- ---- what a read shows

-- The greatest number that is kept of blocks is theirs.
top_is : (own : Option Block) (read : List (Option Block)) (t : TopNumber) → option_map (λ (b : Block). (let n : TopNumber = record { instance = b.lver; mbal = top_mbal b.lver read } in n)) own ≡ Some t
    → top_mbal t.instance read ≡ t.mbal
top_is None read t is = absurd (none_some t is)
top_is (Some b) read t is = subst (λ (n : TopNumber). top_mbal n.instance read ≡ n.mbal) (some_value _ t is) refl

-- ---- an open call of a lease

module _ (h : HostState) (x : Step) (number : ℕ) (c : OpenCall) (m : MemberState) (work : Work) (step : LeaseStep) (r : IsReady h x) (k : IsMembersCall h number c m) (for : c.purpose ≡ Lease work step) where
  open_c : Contains h.unanswered c
  open_c = (find_inside (λ (d : OpenCall). d.number == number) h.unanswered c k.is_open).0

  the : (d : Submitted) × IsMembers h x m c d
  the = members_call h x m c r k.there open_c k.its

  abbrev lease : IsLeasesCall h c m
  lease = answers_are_awaited.leased h x number c m r k (ap (λ p. is_some (lease_step p)) for)

  has : Contains m.leases lease.lease × (is_lease_on (area_of_call h.config.layout c) lease.lease ≡ true)
  has = find_inside (is_lease_on (area_of_call h.config.layout c)) m.leases lease.lease lease.found

  layouts : x.setting.layout ≡ h.config.layout
  layouts = ap (λ (z : Config). z.layout) r.stands.keeps.config

  purpose : the.0.call.purpose ≡ Lease work step
  purpose = ap (λ (z : OpenCall). z.purpose) the.1.kept ∙ for

  area : spot_of_call x.setting.layout the.0 ≡ lease.lease.spot
  area = ap (area_of_call x.setting.layout) the.1.kept ∙ ap (λ g. area_of_call g c) layouts ∙ one_spot (area_of_call h.config.layout c) lease.lease.spot has.1

  now : IsMoment Wake h x
  now = moments_are_known.ready h x r

  way_facts : Ways (way_context x.setting (seen x) m.who) (lease_calls x.setting (seen x) m.who lease.lease.spot)
  way_facts = ways Wake h x now m k.there lease.lease has.0

  -- A call of the member on the lease's area.
  on_lease : (d : Submitted) → Contains (submitted (seen x)) d → d.call.session ≡ m.who.number → is_lease_call d ≡ true → spot_of_call x.setting.layout d ≡ lease.lease.spot
      → Contains (lease_calls x.setting (seen x) m.who lease.lease.spot) d
  on_lease d there mine works spot =
      kept_in (λ (z : Submitted). is_lease_call z && is_on x.setting.layout lease.lease.spot z.call) (calls_of (seen x) m.who) d
      (both_true (is_lease_call d) (is_on x.setting.layout lease.lease.spot d.call) works (subst (λ s. is_on x.setting.layout s d.call ≡ true) spot (on_own_area x.setting d r.kept.known.0.setting)))
      (kept_in (is_call_of m.who) (submitted (seen x)) d ((Decides-eqb d.call.session m.who.number).1 mine) there)

  mine : the.0.call.session ≡ m.who.number
  mine = same_number the.0.call.session m.who.number (kept_inside (is_call_of m.who) (submitted (seen x)) the.0 the.1.mine).1

  of_lease : Contains (lease_calls x.setting (seen x) m.who lease.lease.spot) the.0
  of_lease = on_lease the.0 the.1.inside mine (ap (λ p. is_some (lease_step p)) purpose) area

  -- A block is behind a look before what is owed.
  looked_by : (d : Submitted) → Contains (lease_calls x.setting (seen x) m.who lease.lease.spot) d → (s : LeaseStep) → d.call.purpose ≡ Lease work s → is_look s ≡ true
      → is_some (block_submitted (lease_calls x.setting (seen x) m.who lease.lease.spot)) ≡ true
  looked_by d in_lease s its look =
      let on_it = kept_inside (λ (z : Submitted). is_lease_call z && is_on x.setting.layout lease.lease.spot z.call) (calls_of (seen x) m.who) d in_lease in
      let its_own = kept_inside (is_call_of m.who) (submitted (seen x)) d on_it.0 in
      let aligned : lease.lease.spot.base % x.setting.layout.area ≡ 0 = subst (λ (z : Spot). z.base % x.setting.layout.area ≡ 0) area (spot_aligned x.setting.layout the.0) in
      let spot : spot_of_call x.setting.layout (new_call 0 0 d.call) ≡ lease.lease.spot =
      new_spot x.setting lease.lease.spot d.call r.kept.known.0.setting aligned (and_true (is_lease_call d) (is_on x.setting.layout lease.lease.spot d.call) on_it.1).1
      in
      let made : IsMade (seen x) d = calls_are_made (seen x) d its_own.0 in
      let stands =
      made_by (EntryStands x.setting) made.later made.entry made.past (subst (EachEntry (EntryStands x.setting)) made.whole now.calls) d.call
      (got_inside made.entry.effects.calls made.index d.call made.call)
      in
      let w : WroteBlock x.setting made.past d.call = stands.behind (ap (λ p. looks_before_owed p) its ∙ look) in
      let z = stays_in made.later made.entry made.past w.write w.there in
      let wrote : is_some (block_written z.0) ≡ true = ap (λ (q : Call). is_some (block_written (new_call 0 0 q))) z.2 ∙ w.block in
      let b = some_of (block_written z.0) wrote in
      let on =
      on_lease z.0 (subst (λ t. Contains (submitted t) z.0) (sym made.whole) z.1) (ap (λ (q : Call). q.session) z.2 ∙ w.mine ∙ same_number d.call.session m.who.number its_own.1)
      (ap (λ (q : Call). is_some (lease_step q.purpose)) z.2 ∙ w.works) (ap (λ (q : Call). spot_of_call x.setting.layout (new_call 0 0 q)) z.2 ∙ w.area ∙ spot)
      in
      (written_above (way_context x.setting (seen x) m.who) (lease_calls x.setting (seen x) m.who lease.lease.spot) way_facts z.0 b.0 on b.1).1

  -- Made once, or once more.
  looked : is_look (first_step step) ≡ true → is_some (block_submitted (lease_calls x.setting (seen x) m.who lease.lease.spot)) ≡ true
  looked look = by step purpose look where
    by : (s : LeaseStep) → the.0.call.purpose ≡ Lease work s → is_look (first_step s) ≡ true → is_some (block_submitted (lease_calls x.setting (seen x) m.who lease.lease.spot)) ≡ true
    by (ReadAgain read) its looks =
        let z = way_of (way_context x.setting (seen x) m.who) (lease_calls x.setting (seen x) m.who lease.lease.spot) way_facts the.0 of_lease in
        let h : AgainWay (way_context x.setting (seen x) m.who) work the.0.at the.0.call z.rest read = step_way (way_context x.setting (seen x) m.who) the.0 z.rest work (ReadAgain read) z.way its in
        looked_by h.after.prior (z.inside h.after.prior (prior_inside z.rest work (step_of_read read) h.after)) (step_of_read read) h.after.its looks
    by s its looks = looked_by the.0 of_lease s its looks

  own : is_first_step step ≡ false → is_some lease.lease.own ≡ true
  own later = ap (λ b. is_some b) (sym (lease_stands Wake h x now m k.there lease.lease has.0).own) ∙ by (is_look (first_step step)) refl where
    by : (b : Bool) → is_look (first_step step) ≡ b → is_some (block_submitted (lease_calls x.setting (seen x) m.who lease.lease.spot)) ≡ true
    by true look = looked look
    by false other = call_wrote (way_context x.setting (seen x) m.who) (lease_calls x.setting (seen x) m.who lease.lease.spot) work step the.0 way_facts of_lease purpose later other

  -- What is kept of a first read of pairs are pairs.
  first_well : ArePairs (first_read lease.lease.pair)
  first_well =
      let l = lease_stands Wake h x now m k.there lease.lease has.0 in
      subst ArePairs (first_is_kept x.setting.layout lease.lease.pair (lease_calls x.setting (seen x) m.who lease.lease.spot) l.again l.kept l.second)
      (first_are_pairs x.setting.layout (lease_calls x.setting (seen x) m.who lease.lease.spot))

  some_hosts : (1 ≤ h.config.layout.hosts) × (h.config.layout.hosts ≤ most_hosts)
  some_hosts = subst (λ (g : Layout). (1 ≤ g.hosts) × (g.hosts ≤ most_hosts)) layouts (hosts_fit x.setting (seen x) m.who r.kept.known.0.setting (listed Wake h x now m k.there))

  -- ---- its answer

  module _ (a : Answer) (arrives : AnswerArrives h x number c m a) where
    abbrev q : MemberState
    q = member_hearing h c a m

    abbrev g : HostState
    g = heard_answer number a h

    place : (n : ℕ) × (slice_get h.members n ≡ Some m)
    place = at_some h.members m k.there

    to : IsAnswerTo number c a h x place.0 m
    to = record { stands = r.stands; is_open = k.is_open; fits = arrives.fits; at = r.early.at; there = place.1; its = k.its }

    joined : m.joined ≡ true
    joined = subst (λ p. IsCallOf m p) for ((calls_are_theirs h x r).own m c k.there open_c k.its)

    stays : Contains g.members q
    stays = (let z = answers_set_free.member number c a h x place.0 m to (joined_stays h x place.0 m r.stands place.1 joined) in got_inside g.members z.0 q z.1)

    heard : IsMoment (Told number a) g (with_input (Told number a) x)
    heard = moments_are_known.heard h x number c a r arrives.expected k.is_open arrives.fits

    same : h.config.layout ≡ g.config.layout
    same = sym layouts ∙ ap (λ (z : Config). z.layout) heard.stands.keeps.config

    abbrev told : LeaseState
    told = lease_told h m (is_heeded_by h c) c a lease.lease

    found : find (is_lease_on (spot_in h.config.layout c)) q.leases ≡ Some told
    found =
        found_told (lease_told h m (is_heeded_by h c) c a) (spot_in h.config.layout c) (told_spot h m (is_heeded_by h c) c a) m.leases ∙ ap (λ o. option_map (lease_told h m (is_heeded_by h c) c a) o) lease.found

    lease_is : lease_at q (spot_in h.config.layout c) ≡ told
    lease_is = ap (λ o. unwrap_or o (new_lease (spot_in h.config.layout c))) found

    abbrev hearing_as : LeaseCall → LeaseState
    hearing_as w = lease_hearing h.config.layout m.who.lockspace (record { id = m.who.id; generation = m.known.generation }) (is_heeded_by h c) c a w lease.lease

    told_is : told ≡ hearing_as lease.call
    told_is =
        ap (λ o. elim o as (λ z. LeaseState) [ None ↦ lease.lease | Some w ↦ cond (w.number == c.number) (hearing_as w) lease.lease ]) lease.waits.waiting
        ∙ ap (λ b. cond b (hearing_as lease.call) lease.lease) ((Decides-eqb lease.call.number c.number).1 lease.waits.number)

    step_is : lease.call.step ≡ step
    step_is = (let same_steps : Some (lease.call.work, lease.call.step) ≡ Some (work, step) = ap lease_step (sym lease.waits.purpose ∙ for) in ap (λ (p : Work × LeaseStep). p.1) (some_value (lease.call.work, lease.call.step) (work, step) same_steps))

    now_is : lease_at q (spot_in h.config.layout c) ≡ hearing_as lease.call
    now_is = lease_is ∙ told_is

    owned : is_some (lease_at q (spot_in h.config.layout c)).own ≡ true → IsTrue (is_named (lease_at q (spot_in h.config.layout c)))
    owned = leases_are_known.owned (Told number a) g (with_input (Told number a) x) q (spot_in h.config.layout c) heard stays

    named : IsTrue (is_first_step step || is_named (lease_at q (spot_in h.config.layout c)))
    named = by (is_first_step step) refl where
      by : (b : Bool) → is_first_step step ≡ b → IsTrue (b || is_named (lease_at q (spot_in h.config.layout c)))
      by true first = refl
      by false later = owned (ap (λ (l : LeaseState). is_some l.own) now_is ∙ own later)

    -- ---- a read, by itself or with what is kept of the first one

    again : is_second step ≡ (lease_at q (spot_in h.config.layout c)).pair.again
    again = ap (λ s. is_second s) (sym step_is) ∙ lease.again ∙ ap (λ (l : LeaseState). l.pair.again) (sym now_is)

    kept : (lease_at q (spot_in h.config.layout c)).pair.again ≡ true → IsTrue (is_some (lease_at q (spot_in h.config.layout c)).pair.first)
    kept is =
        subst (λ (l : LeaseState). IsTrue (is_some l.pair.first)) (sym now_is)
        (by (kept_heard h.config.layout lease.call.step a) lease.lease.pair.first (lease.second (ap (λ (l : LeaseState). l.pair.again) (sym now_is) ∙ is))) where
          by : {A : Type 0} (o p : Option A) → is_some p ≡ true → is_some (option_or o p) ≡ true
          by (Some b) p some = refl
          by None p some = some

    tops : TopStands (lease_at q (spot_in h.config.layout c)) (kept_blocks (lease_at q (spot_in h.config.layout c)))
    tops = leases_are_known.tops (Told number a) g (with_input (Told number a) x) q (spot_in h.config.layout c) heard stays

    module _ (bytes : List ℕ) (is : a ≡ Read bytes) (once : asked_again h.config.layout bytes step ≡ None) where
      -- The lease as it has heard these bytes.
      abbrev heard_them : LeaseState
      heard_them =
          lease_hearing h.config.layout m.who.lockspace (record { id = m.who.id; generation = m.known.generation }) (is_heeded_by h c) c (Read bytes) lease.call lease.lease

      them : lease_at q (spot_in h.config.layout c) ≡ heard_them
      them =
          now_is
          ∙ ap (λ z. lease_hearing h.config.layout m.who.lockspace (record { id = m.who.id; generation = m.known.generation }) (is_heeded_by h c) c z lease.call lease.lease) is

      once_so : asked_again h.config.layout bytes lease.call.step ≡ None
      once_so = ap (λ s. asked_again h.config.layout bytes s) step_is ∙ once

      given_as : read_given h.config.layout (first_read heard_them.pair) lease.call.step bytes ≡ read_given h.config.layout (first_read (lease_at q (spot_in h.config.layout c)).pair) step bytes
      given_as =
          ap (λ (l : LeaseState). read_given h.config.layout (first_read l.pair) lease.call.step bytes) (sym them)
          ∙ ap (λ s. read_given h.config.layout (first_read (lease_at q (spot_in h.config.layout c)).pair) s bytes) step_is

      shown : is_read_step step ≡ true → TopStands (lease_at q (spot_in h.config.layout c)) (read_given h.config.layout (first_read (lease_at q (spot_in h.config.layout c)).pair) step bytes)
      shown reads = record { greatest_is = greatest; opened = tops.opened } where
        top : (lease_at q (spot_in h.config.layout c)).top ≡ top_hearing lease.lease (Some (read_given h.config.layout (first_read (lease_at q (spot_in h.config.layout c)).pair) step bytes))
        top =
            ap (λ (l : LeaseState). l.top) them
            ∙ told_top h.config.layout m.who.lockspace (record { id = m.who.id; generation = m.known.generation }) (is_heeded_by h c) c lease.call bytes lease.lease lease.again
            (ap (λ s. is_read_step s) step_is ∙ reads) lease.second once_so
            ∙ ap (λ read. top_hearing lease.lease (Some read)) given_as

        greatest : (t : TopNumber) → (lease_at q (spot_in h.config.layout c)).top ≡ Some t
            → top_mbal t.instance (read_given h.config.layout (first_read (lease_at q (spot_in h.config.layout c)).pair) step bytes) ≡ t.mbal
        greatest t at =
            top_is lease.lease.own (read_given h.config.layout (first_read (lease_at q (spot_in h.config.layout c)).pair) step bytes) t (sym top ∙ at)

      verified : (name : List ℕ) (l : Leader) → first_step step ≡ ReadArea name → leader_given h.config.layout (first_read (lease_at q (spot_in h.config.layout c)).pair) step bytes ≡ Some l
          → is_leader_of h.config.layout q.who.lockspace name l ≡ true → IsTrue (is_named (lease_at q (spot_in h.config.layout c)))
      verified name l sought gives verifies =
          subst (λ (z : LeaseState). IsTrue (is_named z)) (sym them) (subst (λ n. IsTrue (not (is_empty n))) (sym name_is) (named_some name name_well)) where
            sought_so : first_step lease.call.step ≡ ReadArea name
            sought_so = ap (λ s. first_step s) step_is ∙ sought

            read_so : (name_sought (Lease work lease.call.step) ≡ Some name) × (is_area_step lease.call.step ≡ true) × (is_read_step lease.call.step ≡ true)
            read_so = seeks work lease.call.step name sought_so

            gives_so : leader_given h.config.layout (first_read heard_them.pair) lease.call.step bytes ≡ Some l
            gives_so =
                ap (λ (z : LeaseState). leader_given h.config.layout (first_read z.pair) lease.call.step bytes) (sym them)
                ∙ ap (λ s. leader_given h.config.layout (first_read (lease_at q (spot_in h.config.layout c)).pair) s bytes) step_is ∙ gives

            name_is : heard_them.name ≡ name
            name_is =
                told_name h.config.layout m.who.lockspace (record { id = m.who.id; generation = m.known.generation }) (is_heeded_by h c) c lease.call bytes lease.lease lease.again
                read_so.2 lease.second once_so name l lease.waits.purpose sought_so gives_so verifies

            first_same : first_read heard_them.pair ≡ first_read lease.lease.pair
            first_same = first_stays h.config.layout m.who.lockspace (record { id = m.who.id; generation = m.known.generation }) (is_heeded_by h c) c lease.call bytes lease.lease lease.again

            leader_well : IsLeader l
            leader_well =
                leader_is h.config.layout some_hosts bytes (heard_with h.config.layout (first_read heard_them.pair) lease.call.step bytes) (subst ArePairs (sym first_same) first_well) l
                (ap (λ b. elim b as (λ z. Option Leader) [ false ↦ None | true ↦ leader_read h.config.layout bytes (heard_with h.config.layout (first_read heard_them.pair) lease.call.step bytes) ]) (sym read_so.1)
                ∙ gives_so)

            name_well : IsTrue (is_name name)
            name_well =
                let its = and_true (bytes_eq l.lockspace q.who.lockspace && bytes_eq l.resource name) (l.num_hosts == h.config.layout.hosts) verifies in
                subst (λ n. IsTrue (is_name n)) ((bytes_eq-Decides l.resource name).0 (and_true (bytes_eq l.lockspace q.who.lockspace) (bytes_eq l.resource name) its.0).1) leader_well.resource

    based : IsTrue (is_base h.config.layout (spot_in h.config.layout c).base)
    based =
        let spot : lease.lease.spot ≡ spot_in h.config.layout c = sym (one_spot (area_of_call h.config.layout c) lease.lease.spot has.1) in
        subst (λ (s : Spot). IsTrue (is_base h.config.layout s.base)) spot (leases_are_known.placed Wake h x m lease.lease now k.there has.0)

    lease_heard : LeaseHeard g q c step a
    lease_heard =
        record {
          there = stays;
          joined = joined;
          area = subst (λ (z : Layout). IsTrue (is_base z (spot_in z c).base)) same based;
          named = subst (λ (z : Layout). IsTrue (is_first_step step || is_named (lease_at q (spot_in z c)))) same named;
          owned = leases_are_known.owned (Told number a) g (with_input (Told number a) x) q (spot_in g.config.layout c) heard stays;
          opened = leases_are_known.opened (Told number a) g (with_input (Told number a) x) q (spot_in g.config.layout c) heard stays;
          again = subst (λ (z : Layout). is_second step ≡ (lease_at q (spot_in z c)).pair.again) same again;
          kept = subst (λ (z : Layout). (lease_at q (spot_in z c)).pair.again ≡ true → IsTrue (is_some (lease_at q (spot_in z c)).pair.first)) same kept;
          tops = subst (λ (z : Layout). TopStands (lease_at q (spot_in z c)) (kept_blocks (lease_at q (spot_in z c)))) same tops;
          shown = λ bytes is reads.
              subst (λ (z : Layout). asked_again z bytes step ≡ None → TopStands (lease_at q (spot_in z c)) (read_given z (first_read (lease_at q (spot_in z c)).pair) step bytes)) same
              (λ once. shown bytes is once reads);
          verified = λ bytes name l is sought.
              subst (λ (z : Layout). asked_again z bytes step ≡ None → leader_given z (first_read (lease_at q (spot_in z c)).pair) step bytes ≡ Some l → is_leader_of z q.who.lockspace name l ≡ true
              → IsTrue (is_named (lease_at q (spot_in z c)))) same
              (λ once gives verifies. verified bytes is once name l sought gives verifies);
          held = leases_are_known.held (Told number a) g (with_input (Told number a) x) q (spot_in g.config.layout c) heard stays;
        }

-- ---- what an open call does, of whatever session

module _ (h : HostState) (x : Step) (number : ℕ) (c : OpenCall) (r : IsReady h x) (opens : IsOpen h number c) where
  call : (d : Submitted) × Contains (outstanding (seen x)) d × (kept_call d ≡ c)
  call = of_trace h x.setting (seen x) c r.stands.keeps (find_inside (λ (d : OpenCall). d.number == number) h.unanswered c opens).0

  inside : Contains (submitted (seen x)) call.0
  inside = (kept_inside (λ (z : Submitted). is_none z.answer) (submitted (seen x)) call.0 call.1).0

  times : c.reading < moments
  times =
      let made : IsMade (seen x) call.0 = calls_are_made (seen x) call.0 inside in
      let follows =
      made_by (FollowsTrace x.setting) made.later made.entry made.past (subst (EachEntry (FollowsTrace x.setting)) made.whole r.kept.known.0.orderly.is_trace)
      in
      subst (λ (z : OpenCall). z.reading < moments) call.2 (subst (λ n. n < moments) (sym made.reading) follows.below)

  steps : (work : Work) (step : LeaseStep) → c.purpose ≡ Lease work step → is_some c.sectors ≡ is_read_step step
  steps work step for =
      ap (λ o. is_some o) (calls_ask h x c r (find_inside (λ (d : OpenCall). d.number == number) h.unanswered c opens).0 ∙ ap (λ p. sectors_asked h.config.layout p) for) ∙ by step
    where
      by : (s : LeaseStep) → is_some (sectors_asked h.config.layout (Lease work s)) ≡ is_read_step s
      by (ReadAgain (OfArea name)) = refl
      by (ReadAgain OfFree) = refl
      by (ReadAgain OfBlock) = refl
      by (ReadAgain OfPhase1) = refl
      by (ReadAgain OfPhase2) = refl
      by s = refl

  instance : (work : Work) (step : LeaseStep) → c.purpose ≡ Lease work step → c.sectors ≡ None → IsInstance c.lver
  instance work step for none =
      let owner = some_of (session_numbered x.setting (seen x) call.0.call.session) (r.kept.known.0.facts.calls.owned call.0 inside) in
      let at : Spot = spot_of_call x.setting.layout call.0 in
      let purpose : call.0.call.purpose ≡ Lease work step = ap (λ (z : OpenCall). z.purpose) call.2 ∙ for in
      let listed = got_inside (sessions x.setting (seen x)) call.0.call.session owner.0 owner.1 in
      let number_is : owner.0.number ≡ call.0.call.session = placed_by_number x.setting (seen x) call.0.call.session owner.0 owner.1 in
      let on =
      kept_in (λ (z : Submitted). is_lease_call z && is_on x.setting.layout at z.call) (calls_of (seen x) owner.0) call.0
      (both_true (is_lease_call call.0) (is_on x.setting.layout at call.0.call) (ap (λ p. is_some (lease_step p)) purpose) (on_own_area x.setting call.0 r.kept.known.0.setting))
      (kept_in (is_call_of owner.0) (submitted (seen x)) call.0 ((Decides-eqb call.0.call.session owner.0.number).1 (sym number_is)) inside)
      in
      subst (λ (z : OpenCall). IsInstance z.lver) call.2
      (write_instance x.setting (seen x) owner.0 at r.kept.known.0.orderly (r.kept.known.0.facts.ways.each owner.0 at listed (spot_aligned x.setting.layout call.0)) call.0 on work step purpose
      (ap (λ (z : OpenCall). z.sectors) call.2 ∙ none))

-- ---- by the number of its session

origin : (h : HostState) (number : ℕ) (c : OpenCall) (q : MemberState) (a : Answer) → IsOpen h number c → Contains (heard_answer number a h).members q → (q.who.number == c.session) ≡ true
    → (m : MemberState) × IsMembersCall h number c m × (member_hearing h c a m ≡ q)
origin h number c q a opens there its = by (c.session == z.0.who.number) refl z.2 where
  in_heard : Contains (hearing c a h).members q
  in_heard = subst (λ (g : HostState). Contains g.members q) (ap (λ o. elim o as (λ z. HostState) [ None ↦ h | Some d ↦ hearing d a h ]) opens) there

  z : (m : MemberState) × Contains h.members m × (cond (c.session == m.who.number) (member_hearing h c a m) m ≡ q)
  z = in_map (λ (m : MemberState). cond (c.session == m.who.number) (member_hearing h c a m) m) h.members q
      (kept_inside (λ (m : MemberState). not (is_over_with c.number h m)) (map (λ (m : MemberState). cond (c.session == m.who.number) (member_hearing h c a m) m) h.members) q in_heard).0

  by : (b : Bool) → (c.session == z.0.who.number) ≡ b → cond b (member_hearing h c a z.0) z.0 ≡ q → (m : MemberState) × IsMembersCall h number c m × (member_hearing h c a m ≡ q)
  by true own is = (z.0, record { is_open = opens; there = z.1; its = own }, is)
  by false other is =
      absurd (true_is_false (sym ((Decides-eqb c.session z.0.who.number).1 (sym ((Decides-eqb q.who.number c.session).0 its) ∙ ap (λ (m : MemberState). m.who.number) (sym is))) ∙ other))

by_number : (h : HostState) (x : Step) (number : ℕ) (c : OpenCall) (q : MemberState) (a : Answer) (work : Work) (step : LeaseStep) → IsReady h x → is_expected x.setting x.past (Told number a) ≡ true
    → IsOpen h number c → FitsCall h.config.layout a c → Contains (heard_answer number a h).members q → (q.who.number == c.session) ≡ true → c.purpose ≡ Lease work step
    → LeaseHeard (heard_answer number a h) q c step a
by_number h x number c q a work step r expected opens fits there its for =
    let m = origin h number c q a opens there its in
    subst (λ y. LeaseHeard (heard_answer number a h) y c step a) m.2
    (lease_heard h x number c m.0 work step r m.1 for a (record { ready = r; expected = expected; call = m.1; fits = fits }))

-- ---- the job that waits

same_bool : (a b : Bool) → (a ≡ true → b ≡ true) → (b ≡ true → a ≡ true) → a ≡ b
same_bool true b forth back = sym (forth refl)
same_bool false true forth back = back refl
same_bool false false forth back = refl

of_job_is : (n : ℕ) (d : Submitted) → is_of_job n d ≡ true → job_of d.call.purpose ≡ Some n
of_job_is n d is = (let v = some_is_true (λ k. k == n) (job_of d.call.purpose) is in v.1 ∙ ap (λ k. Some k) (eqb-true v.0 n v.2))

module _ (h : HostState) (x : Step) (number : ℕ) (c : OpenCall) (j : JobState) (r : IsReady h x) (opens : IsOpen h number c) (there : Contains h.jobs j) where
  job : (k : Job) × Contains (running_jobs x.setting (seen x)) k × (kept_job (seen x) k ≡ j)
  job = in_map (kept_job (seen x)) (running_jobs x.setting (seen x)) j (subst (λ js. Contains js j) (sym r.stands.keeps.jobs) there)

  its : (d : Submitted) × Contains (outstanding (seen x)) d × (kept_call d ≡ c)
  its = of_trace h x.setting (seen x) c r.stands.keeps (find_inside (λ (d : OpenCall). d.number == number) h.unanswered c opens).0

  opened : (d : Submitted) → Contains (outstanding (seen x)) d → Contains (submitted (seen x)) d × (d.answer ≡ None)
  opened d inside = (let z = kept_inside (λ (y : Submitted). is_none y.answer) (submitted (seen x)) d inside in (z.0, none_is d.answer z.1))

  same_own : is_of_job job.0.number its.0 ≡ is_kept_of j.number c
  same_own = ap (λ n. is_kept_of n (kept_call its.0)) (ap (λ (z : JobState). z.number) job.2) ∙ ap (λ z. is_kept_of j.number z) its.2

  waits_as : option_map kept_waiting (waiting_call (seen x) job.0.number) ≡ j.waits
  waits_as = ap (λ (z : JobState). z.waits) job.2

  -- For whom it waits.
  first : (o : Option Submitted) → find (is_of_job job.0.number) (outstanding (seen x)) ≡ o → some_is (λ w. w.number == c.number) (option_map kept_waiting o) ≡ is_of_job job.0.number its.0
  first None none = sym (is_false_by (is_of_job job.0.number its.0) (λ own. none_some_true none (found_some (is_of_job job.0.number) (outstanding (seen x)) its.0 its.1 own))) where
    is_false_by : (b : Bool) → (b ≡ true → ⊥) → b ≡ false
    is_false_by true never = absurd (never refl)
    is_false_by false never = refl

    none_some_true : find (is_of_job job.0.number) (outstanding (seen x)) ≡ None → is_some (find (is_of_job job.0.number) (outstanding (seen x))) ≡ true → ⊥
    none_some_true is some = true_is_false (sym some ∙ ap (λ o. is_some o) is)
  first (Some e) is = same_bool (e.call.number == c.number) (is_of_job job.0.number its.0) to back where
    f : Contains (outstanding (seen x)) e × (is_of_job job.0.number e ≡ true)
    f = find_inside (is_of_job job.0.number) (outstanding (seen x)) e is

    number_is : its.0.call.number ≡ c.number
    number_is = ap (λ (z : OpenCall). z.number) its.2

    to : (e.call.number == c.number) ≡ true → is_of_job job.0.number its.0 ≡ true
    to same =
        let facts = r.kept.known.0.facts.calls in
        let numbers : its.0.call.number ≡ e.call.number = number_is ∙ sym (eqb-true e.call.number c.number same) in
        let one : its.0 ≡ e = some_value its.0 e (sym (facts.found its.0 (opened its.0 its.1).0) ∙ ap (call_numbered (seen x)) numbers ∙ facts.found e (opened e f.0).0) in
        ap (is_of_job job.0.number) one ∙ f.1

    back : is_of_job job.0.number its.0 ≡ true → (e.call.number == c.number) ≡ true
    back own =
        let d_open = opened its.0 its.1 in
        let e_open = opened e f.0 in
        let one : its.0 ≡ e =
        r.kept.known.0.facts.jobs.one its.0 e job.0.number d_open.0 e_open.0 (inl d_open.1) (inl e_open.1) (of_job_is job.0.number its.0 own) (of_job_is job.0.number e f.1)
        in
        (Decides-eqb e.call.number c.number).1 (ap (λ (z : Submitted). z.call.number) (sym one) ∙ number_is)

  waits_own : some_is (λ w. w.number == c.number) j.waits ≡ is_kept_of j.number c
  waits_own = ap (λ o. some_is (λ w. w.number == c.number) o) (sym waits_as) ∙ first (waiting_call (seen x) job.0.number) refl ∙ same_own

pub lease_answers_are_known : LeaseAnswersAreKnown
lease_answers_are_known =
    record {
      origin = origin;
      by_number = by_number;
      heard = λ h x number c m a work step arrives for. lease_heard h x number c m work step arrives.ready arrives.call for a arrives;
      instances = λ h x number c work step r opens for none. instance h x number c r opens work step for none;
      steps = λ h x number c work step r opens for. steps h x number c r opens work step for;
      times = λ h x number c r opens. times h x number c r opens;
      waits = λ h x number c j r opens there. waits_own h x number c j r opens there;
    }
