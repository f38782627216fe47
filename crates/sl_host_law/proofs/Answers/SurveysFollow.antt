-- The whole of an answer to a read of all ids is followed by the state that it makes.
use Rattle.sl_host_law.proofs.Answers.AnswersFollow.{place, call, stands, theirs}
use Rattle.sl_host_law.proofs.Answers.DecisionsAreCarried.{layout_is}
use Rattle.sl_host_law.proofs.Answers.RequestsFollow.{follows}
use Rattle.sl_host_law.specs.Answers.AnswersFollow.{IsAnswerTo}
use Rattle.sl_host_law.specs.Answers.Requests.{Follows, on_given}
use Rattle.sl_host_law.specs.Answers.Surveys.{SurveysFollow, exclusive_of, is_asked_by, reading_request, reading_request_on, reading_requests, recovering_by_read, surveyed_in}
use Rattle.sl_area.specs.AreaSizes.{Layout}
use Rattle.sl_area.specs.AreaLayout.{request_offset}
use Rattle.sl_host_law.proofs.Calls.CallsAreTaken.{calls_are_taken}
use Rattle.sl_due.specs.DueAnswers.{after_answer_of}
use Rattle.sl_due.specs.CarriedDelta.{after_survey, see_request, see_request_on, see_requests}
use Rattle.sl_due.specs.DueRecovery.{signal_and_refuse}
use Rattle.sl_due.specs.Steps.{Step, add_call_of, for_each, when, with_input, with_some}
use Rattle.sl_host_law.proofs.SharedFacts.PlainLists.{at_some, flat_has, mapped_at}
use Rattle.sl_host_state.specs.HeardInputs.{heard_answer, member_hearing}
use Rattle.sl_host_state.specs.KeptState.{HostState, MemberState}
use Rattle.sl_host_state.specs.MadeEffects.{joining_calling, known_calling, leases_calling, member_answered, member_calling, member_replying, next_submitted, with_reply}
use Rattle.sl_host_state.specs.HostStands.{Stands, is_kept_of}
use Rattle.sl_host_state.specs.declared.kept_parts.OpenCall.{OpenCall}
use Rattle.sl_host_law.proofs.StepParts.RefusalsAreTaken.{refusals_are_taken}
use Rattle.sl_host_law.proofs.StepParts.SignalsAreTaken.{signalling_same}
use Rattle.sl_host_law.specs.StepParts.Refusals.{jobs_but, numbers_of, replying_to, signalling_and_refusing}
use Rattle.sl_host_law.specs.StepParts.Signals.{over, signalling}
use Rattle.sl_words.proofs.Lists.{contains_first, got_inside}
use Rattle.sl_host_law.proofs.Questions.AnswersDecide.{answers_decide}
use Rattle.sl_host_law.proofs.Questions.MembersAnswer.{members_answer}
use Rattle.sl_host_law.specs.Questions.Answers.{AnswerDecides, survey_in_step}
use Rattle.sl_host_law.specs.Questions.Members.{IsMemberAt, begins_by_read_in}
use Rattle.sl_host_law.proofs.Replies.Answers.AnswersAreHeard.{answers_are_heard}
use Rattle.sl_trace.specs.Traces.{Submitted, bytes_given, job_of}
use Rattle.sl_trace.specs.declared.effects.Grant.{Grant}
use Rattle.sl_trace.specs.declared.effects.Op.TheVariants.{ReadSectors}
use Rattle.sl_trace.specs.declared.effects.Purpose.TheVariants.{SeeRequest, Survey}
use Rattle.sl_trace.specs.declared.effects.Signal.TheVariants.{Term}
use Rattle.sl_trace.specs.declared.effects.Spot.{Spot}
use Rattle.sl_trace.specs.declared.input.Answer.{Answer}
use Rattle.sl_trace.specs.declared.input.Input.TheVariants.{Answer as Told}
use Rattle.sl_trace.specs.declared.input.Input.{Input}
use Rattle.sl_trace.specs.declared.reply.Reply.TheVariants.{Recovering}
use Rattle.sl_trace.specs.declared.reply.Reply.{Reply}
use Rattle.sl_words.specs.Words.{some_is}
use Rattle.std.proofs.Common.{ap, inr, refl, subst, sym}
use Rattle.std.specs.Prelude.{Bool, Contains, List, None, Option, Some, cond, false, map, not, true, [], ℕ, ◌&&◌, ◌==◌, ◌∷◌, ◌≡◌}

-- ---- who is joined stays through replies

joined_replied : (h : HostState) (n : ℕ) (r : Reply) (m : MemberState) → m.joined ≡ true → Contains h.members m → Contains (with_reply n r h).members m
joined_replied h n r m joined there = flat_has (member_replying h n r) h.members m m there by where
  by : Contains (member_replying h n r m) m
  by =
      subst (λ b. Contains (cond ((not b && not m.refused) && some_is (λ j. j == n) m.who.job) (member_answered h r m) (m ∷ [])) m) (sym joined) (contains_first m [])

joined_stays : (ns : List ℕ) (r : Reply) (h : HostState) (m : MemberState) → m.joined ≡ true → Contains h.members m → Contains (replying_to ns r h).members m
joined_stays [] r h m joined there = there
joined_stays (n ∷ ns) r h m joined there = joined_stays ns r (with_reply n r h) m joined (joined_replied h n r m joined there)

-- ---- requests are read one after another

same_who : (g : Layout) (d : Submitted) (m : MemberState) → (member_calling g d m).who ≡ m.who
same_who g d m = by (d.call.session == m.who.number) where
  by : (b : Bool) → (cond b (record m { known = known_calling d m.known; joining = joining_calling d m.joining; leases = leases_calling g d m.leases }) m).who ≡ m.who
  by true = refl
  by false = refl

-- The call that reads a request.
abbrev reads : HostState → MemberState → Grant → Submitted
reads h m g = next_submitted h m.who.number g.path SeeRequest (request_offset h.config.layout g.offset) (ReadSectors 1)

read_one : (i : Input) (h : HostState) (x : Step) (k : ℕ) (m : MemberState) (g : Grant) → IsMemberAt i h x k m → Stands i (reading_request m.who g h) (see_request m.who g x)
read_one i h x k m g at =
    subst (λ (l : Layout). Stands i (reading_request m.who g h) (add_call_of m.who.number g.path SeeRequest (request_offset l g.offset) (ReadSectors 1) x)) (layout_is i h x at.stands)
    (calls_are_taken h k m g.path SeeRequest (request_offset h.config.layout g.offset) (ReadSectors 1) at.there
    (record { later = refl; job = refl; turn = refl; generation = refl; value = refl; lease = refl; again = refl }) i x at.stands)

read_each : (ats : List Spot) (i : Input) (h : HostState) (x : Step) (k : ℕ) (m : MemberState) → IsMemberAt i h x k m
    → Stands i (over ats (reading_request_on m.who) h) (for_each ats (see_request_on m.who) x)
read_each [] i h x k m at = at.stands
read_each (p ∷ ats) i h x k m at =
    subst (λ o. Stands i (over ats (reading_request_on m.who) (reading_request_on m.who p h)) (for_each ats (see_request_on m.who) (with_some o (see_request m.who) x)))
    (sym ((members_answer i h x k m at).exclusive p)) (by (λ g y z there. read_each ats i g y k z there) (exclusive_of h m.who p)) where
      by : ((g : HostState) (y : Step) (z : MemberState) → IsMemberAt i g y k z → Stands i (over ats (reading_request_on z.who) g) (for_each ats (see_request_on z.who) y)) → (o : Option Grant)
          → Stands i (over ats (reading_request_on m.who) (elim o as (λ z. HostState) [ None ↦ h | Some g ↦ reading_request m.who g h ])) (for_each ats (see_request_on m.who) (with_some o (see_request m.who) x))
      by further None = further h x m at
      by further (Some g) =
          subst (λ s. Stands i (over ats (reading_request_on s) (reading_request m.who g h)) (for_each ats (see_request_on s) (see_request m.who g x)))
          (same_who h.config.layout (reads h m g) m)
          (further (reading_request m.who g h) (see_request m.who g x) (member_calling h.config.layout (reads h m g) m)
          (record { stands = read_one i h x k m g at; there = mapped_at (member_calling h.config.layout (reads h m g)) h.members k m at.there }))

read_all : (i : Input) (h : HostState) (x : Step) (m : MemberState) → Stands i h x → Contains h.members m → Stands i (reading_requests m h) (see_requests m.who x)
unfolding see_requests
read_all i h x m s inside =
    let at = at_some h.members m inside in
    let there : IsMemberAt i h x at.0 m = record { stands = s; there = at.1 } in
    subst (λ ats. Stands i (reading_requests m h) (for_each ats (see_request_on m.who) x)) (sym (members_answer i h x at.0 m there).spots)
    (read_each (map (λ l. l.spot) m.leases) i h x at.0 m there)

-- ---- the whole

module _ (number : ℕ) (c : OpenCall) (a : Answer) (h : HostState) (x : Step) (k : ℕ) (m : MemberState) (to : IsAnswerTo number c a h x k m) (not_refused : m.refused ≡ false) (is : c.purpose ≡ Survey) where
  decides : AnswerDecides (heard_answer number a h) (with_input (Told number a) x) (member_hearing h c a m) (theirs number c a h x k m to not_refused).0 c a
  decides =
      answers_decide (Told number a) (heard_answer number a h) (with_input (Told number a) x) (place number c a h x k m to not_refused).0 (member_hearing h c a m) (theirs number c a h x k m to not_refused).0 c a
      (call number c a h x k m to not_refused)

  at : IsMemberAt (Told number a) (heard_answer number a h) (with_input (Told number a) x) (place number c a h x k m to not_refused).0 (member_hearing h c a m)
  at = record { stands = stands number c a h x k m to not_refused; there = (place number c a h x k m to not_refused).1 }

  inside : Contains (heard_answer number a h).members (member_hearing h c a m)
  inside = got_inside (heard_answer number a h).members (place number c a h x k m to not_refused).0 (member_hearing h c a m) (place number c a h x k m to not_refused).1

  no_job : (n : ℕ) → is_kept_of n c ≡ false
  no_job n = ap (λ p. some_is (λ q. q == n) (job_of p)) is

  begins : (b : Bool)
      → Stands (Told number a) (cond b (signalling_and_refusing (member_hearing h c a m) None (heard_answer number a h)) (heard_answer number a h)) (when b (signal_and_refuse m.who None) (with_input (Told number a) x))
  begins true =
      refusals_are_taken.whole (Told number a) (heard_answer number a h) (with_input (Told number a) x) (place number c a h x k m to not_refused).0 (member_hearing h c a m) None at
      (λ n there. (inr (answers_are_heard.other number c n h x to.stands to.is_open to.at (no_job n)), tt))
  begins false = at.stands

  still : (member_hearing h c a m).joined ≡ true → (b : Bool)
      → Contains (cond b (signalling_and_refusing (member_hearing h c a m) None (heard_answer number a h)) (heard_answer number a h)).members (member_hearing h c a m)
  still joined true =
      joined_stays (numbers_of (jobs_but None (signalling Term (member_hearing h c a m) (heard_answer number a h)) (member_hearing h c a m))) (Recovering (member_hearing h c a m).renewing.last)
      (signalling Term (member_hearing h c a m) (heard_answer number a h)) (member_hearing h c a m) joined
      (subst (λ ms. Contains ms (member_hearing h c a m)) (sym (signalling_same (member_hearing h c a m) Term (heard_answer number a h)).members) inside)
  still joined false = inside

  asked : (joined : (member_hearing h c a m).joined ≡ true) (b r : Bool)
      → Stands (Told number a)
      (cond b (reading_requests (member_hearing h c a m) (cond r (signalling_and_refusing (member_hearing h c a m) None (heard_answer number a h)) (heard_answer number a h)))
      (cond r (signalling_and_refusing (member_hearing h c a m) None (heard_answer number a h)) (heard_answer number a h)))
      (when b (see_requests m.who) (when r (signal_and_refuse m.who None) (with_input (Told number a) x)))
  asked joined true r =
      read_all (Told number a) (cond r (signalling_and_refusing (member_hearing h c a m) None (heard_answer number a h)) (heard_answer number a h))
      (when r (signal_and_refuse m.who None) (with_input (Told number a) x)) (member_hearing h c a m) (begins r) (still joined r)
  asked joined false r = begins r

  given : (bytes : List ℕ)
      → Stands (Told number a) (surveyed_in (member_hearing h c a m) bytes (heard_answer number a h)) (survey_in_step (heard_answer number a h) (member_hearing h c a m) bytes (with_input (Told number a) x))
  given bytes =
      subst
      (λ (g : Layout). Stands (Told number a) (surveyed_in (member_hearing h c a m) bytes (heard_answer number a h))
      (when (member_hearing h c a m).joined (λ y.
      when (is_asked_by g m.who bytes) (see_requests m.who)
      (when (begins_by_read_in (heard_answer number a h) (member_hearing h c a m).renewing.recovery) (signal_and_refuse m.who None) y)) (with_input (Told number a) x)))
      (layout_is (Told number a) (heard_answer number a h) (with_input (Told number a) x) at.stands) (by (member_hearing h c a m).joined refl) where
        by : (b : Bool) → (member_hearing h c a m).joined ≡ b
            → Stands (Told number a)
            (cond b
            (cond (is_asked_by (heard_answer number a h).config.layout m.who bytes) (reading_requests (member_hearing h c a m) (recovering_by_read (member_hearing h c a m) (heard_answer number a h)))
            (recovering_by_read (member_hearing h c a m) (heard_answer number a h))) (heard_answer number a h))
            (when b (λ y.
            when (is_asked_by (heard_answer number a h).config.layout m.who bytes) (see_requests m.who)
            (when (begins_by_read_in (heard_answer number a h) (member_hearing h c a m).renewing.recovery) (signal_and_refuse m.who None) y)) (with_input (Told number a) x))
        by true joined = asked joined (is_asked_by (heard_answer number a h).config.layout m.who bytes) (begins_by_read_in (heard_answer number a h) (member_hearing h c a m).renewing.recovery)
        by false joined = at.stands

  survey : Follows number a h x (on_given a (surveyed_in (member_hearing h c a m)) (heard_answer number a h))
  unfolding after_answer_of
  survey = follows number c a h x k m to not_refused Survey is (on_given a (surveyed_in (member_hearing h c a m)) (heard_answer number a h)) (by (bytes_given a)) where
    by : (o : Option (List ℕ))
        → Stands (Told number a) (elim o as (λ z. HostState) [ None ↦ heard_answer number a h | Some bytes ↦ surveyed_in (member_hearing h c a m) bytes (heard_answer number a h) ])
        (with_some o (after_survey m.who) (with_input (Told number a) x))
    by None = at.stands
    by (Some bytes) = subst (λ (y : Step). Stands (Told number a) (surveyed_in (member_hearing h c a m) bytes (heard_answer number a h)) y) (sym (decides.survey bytes)) (given bytes)

pub surveys_follow : SurveysFollow
surveys_follow number c a h x k m to not_refused is = survey number c a h x k m to not_refused is
