-- The whole of an answer to a joining's call is followed by the state that it makes.
use Rattle.sl_host_law.proofs.Answers.AnswersFollow.{call, idle, idle_job, place, theirs}
use Rattle.sl_host_law.proofs.Answers.DecisionsAreCarried.{decisions_are_carried}
use Rattle.sl_host_law.proofs.Answers.JoinDecisions.{IsJoinDecision, join_decides}
use Rattle.sl_host_law.proofs.Answers.RequestsFollow.{follows, may}
use Rattle.sl_host_law.specs.Answers.AnswersFollow.{IsAnswerTo}
use Rattle.sl_host_law.specs.Answers.CarriedDecisions.{MayCarry, MayRead, MaySurvey, MayWrite, carrying, connecting, registering}
use Rattle.sl_host_law.specs.Answers.Joinings.{IsDecided, JoiningsFollow}
use Rattle.sl_host_law.specs.Answers.RefusalsFollow.{IsAlone}
use Rattle.sl_host_law.specs.Answers.Requests.{Follows}
use Rattle.sl_host_law.specs.Calls.MemberCalls.{is_idle_job, is_leaving_alone}
use Rattle.sl_due.specs.DueAnswers.{after_answer_of}
use Rattle.sl_due.specs.CarriedDelta.{after_join_answer, carry_delta}
use Rattle.sl_due.specs.DueTimeOuts.{remove_connection, remove_of_refused}
use Rattle.sl_due.specs.Steps.{Step, seen, when, with_input}
use Rattle.sl_host_law.proofs.SharedFacts.PlainLists.{at_some, flat_has}
use Rattle.sl_host_state.specs.HeardInputs.{heard_answer, is_heeded_by, lease_told, member_hearing}
use Rattle.sl_host_state.specs.KeptState.{HostState, MemberState}
use Rattle.sl_host_state.specs.MadeEffects.{has_write_open, is_ended_by_move, member_replying, with_reply}
use Rattle.sl_host_state.specs.HostStands.{Stands, is_joining}
use Rattle.sl_host_state.specs.declared.kept_parts.OpenCall.{OpenCall}
use Rattle.sl_host_law.proofs.StepParts.EndsAreTaken.{ends_are_taken}
use Rattle.sl_host_law.specs.StepParts.Ends.{removing}
use Rattle.sl_words.proofs.Lists.{contains_first, got_inside, kept}
use Rattle.sl_words.proofs.Numbers.{number_itself}
use Rattle.sl_host_law.proofs.Questions.AnswersAreTheirs.{answers_are_theirs}
use Rattle.sl_host_law.proofs.Questions.AnswersDecide.{answers_decide}
use Rattle.sl_host_law.proofs.Questions.JobsAnswer.{jobs_answer}
use Rattle.sl_host_law.proofs.Questions.RefusalsAreTold.{refusals_are_told}
use Rattle.sl_host_law.specs.Questions.Jobs.{running_in}
use Rattle.sl_host_law.proofs.Replies.Answers.AnswersAreHeard.{answers_are_heard}
use Rattle.sl_host_law.proofs.Replies.PlainNumbers.{same_number}
use Rattle.sl_host_law.specs.Replies.Moves.{EndsBegun}
use Rattle.sl_host_law.specs.Replies.RepliesAreTaken.{MayReply}
use Rattle.sl_sector.specs.declared.sector.DeltaRec.{DeltaRec}
use Rattle.sl_trace.specs.DeltaDecisions.{delta_of_session, next_in_joining}
use Rattle.sl_trace.specs.Sessions.{calls_of, generation_of, is_delta_purpose, is_join_done, same_join_step}
use Rattle.sl_trace.specs.declared.delta.DeltaNext.TheVariants.{Disconnect, Join, EndLeaving, MoveConnection, ReadOwn, RegisterAndRead, RefuseJoin, Nothing, WriteClaim, WriteFirst, WriteFree, WriteRenewal}
use Rattle.sl_trace.specs.declared.delta.DeltaNext.{DeltaNext}
use Rattle.sl_time.specs.Times.{fail}
use Rattle.sl_trace.specs.Traces.{is_running, job_of}
use Rattle.sl_trace.specs.declared.effects.JoinStep.TheVariants.{ClaimWrite, FirstRead, FirstRenewal}
use Rattle.sl_trace.specs.declared.effects.JoinStep.{JoinStep}
use Rattle.sl_trace.specs.declared.effects.Move.TheVariants.{Register, Renew, Unregister}
use Rattle.sl_trace.specs.declared.effects.Purpose.TheVariants.{Joining}
use Rattle.sl_trace.specs.declared.effects.Purpose.{Purpose}
use Rattle.sl_trace.specs.declared.input.Answer.{Answer}
use Rattle.sl_trace.specs.declared.input.Input.TheVariants.{Answer as Told}
use Rattle.sl_trace.specs.declared.reply.Reply.TheVariants.{Generation}
use Rattle.sl_words.proofs.WordLaws.{and_true}
use Rattle.sl_words.proofs.CaseLaws.{some_value, true_is_false}
use Rattle.sl_words.specs.Words.{is_empty, some_is}
use Rattle.std.proofs.Common.{ap, refl, subst, sym, ◌∙◌}
use Rattle.std.specs.Prelude.{Bool, Contains, List, Some, cond, false, map, not, slice_get, true, [], ℕ, ◌&&◌, ◌+◌, ◌==◌, ◌||◌, ◌∷◌, ◌≡◌}

empty_mapped : {A B : Type 0} (f : A → B) (xs : List A) → is_empty xs ≡ true → is_empty (map f xs) ≡ true
empty_mapped f [] is = refl
empty_mapped f (x ∷ xs) is = absurd (true_is_false (sym is))

or_true : (b : Bool) → (b || true) ≡ true
or_true true = refl
or_true false = refl

not_joined : (a b : Bool) → (not a && not b) ≡ true → a ≡ false
not_joined false b is = refl
not_joined true b is = absurd (true_is_false (sym is))

not_refused_too : (a b : Bool) → (not a && not b) ≡ true → b ≡ false
not_refused_too false false is = refl
not_refused_too false true is = absurd (true_is_false (sym is))
not_refused_too true b is = absurd (true_is_false (sym is))

module _ (number : ℕ) (c : OpenCall) (a : Answer) (h : HostState) (x : Step) (k : ℕ) (m : MemberState) (j : ℕ) (step : JoinStep) (to : IsAnswerTo number c a h x k m) (is : c.purpose ≡ Joining j step) where
  after : Stands (Told number a) (heard_answer number a h) (with_input (Told number a) x)
  after = answers_are_heard.heard number c a h x to.stands to.is_open to.fits to.at

  -- ---- the joining goes on

  module _ (its : m.who.job ≡ Some j) (joins : is_joining m ≡ true) (bare : is_empty m.leases ≡ true) (runs : running_in (heard_answer number a h) j ≡ true) where
    not_refused : m.refused ≡ false
    not_refused = not_refused_too m.joined m.refused joins

    at_member : (n : ℕ) × (slice_get (heard_answer number a h).members n ≡ Some (member_hearing h c a m))
    at_member = place number c a h x k m to (not_refused_too m.joined m.refused joins)

    is_idle : (member_hearing h c a m).known.busy ≡ false
    is_idle = idle number c a h x k m to (not_refused_too m.joined m.refused joins) (ap is_delta_purpose is)

    job_idle : is_idle_job (heard_answer number a h) j ≡ true
    job_idle = idle_job number c a h x k m to (not_refused_too m.joined m.refused joins) j (ap (λ p. some_is (λ q. q == j) (job_of p)) is ∙ number_itself j) runs

    no_leases : is_empty (member_hearing h c a m).leases ≡ true
    no_leases = empty_mapped (lease_told h m (is_heeded_by h c) c a) m.leases bare

    -- It may read its sector, after it has registered too, and write it.
    may_read : (step' : JoinStep) → same_join_step FirstRead step' ≡ false → MayRead (registering m.who (heard_answer number a h)) m.who (Joining j step')
    may_read step' later =
        let new : HostState = heard_answer number a h in
        let hears : MemberState = member_hearing h c a m in
        let at = at_some (registering m.who new).members hears
        (kept (λ (z : MemberState). not (is_ended_by_move (Register m.who.lockspace (new.reading + fail new.config.timing)) z)) new.members hears refl (got_inside new.members at_member.0 hears at_member.1)) in
        record {
          place = at.0;
          member = hears;
          there = at.1;
          its = refl;
          fits = record {
            later = later;
            job = ap (λ b. b || is_leaving_alone (registering m.who new) hears j) job_idle;
            turn = ap (λ b. not (true && b)) is_idle;
            generation = refl;
            value = refl;
            again = refl;
            lease = refl;
          };
        }

    may_write : (step' : JoinStep) (d : DeltaRec) → same_join_step FirstRead step' ≡ false → MayWrite (heard_answer number a h) m.who (Joining j step') d
    may_write step' d later =
        let new : HostState = heard_answer number a h in
        let hears : MemberState = member_hearing h c a m in
        record {
          place = at_member.0;
          member = hears;
          there = at_member.1;
          its = refl;
          fits = record {
            later = later;
            job = ap (λ b. b || is_leaving_alone new hears j) job_idle;
            turn = ap (λ b. not (true && b)) is_idle;
            generation = ap (λ b. d.generation == hears.known.generation || b) no_leases ∙ or_true (d.generation == hears.known.generation);
            value = refl;
            again = refl;
            lease = refl;
          };
        }

    -- Joined, it may read all ids.
    may_survey : (generation renewed : ℕ) → MaySurvey (with_reply j (Generation generation) (connecting m.who renewed (heard_answer number a h))) m.who
    may_survey generation renewed =
        let new : HostState = connecting m.who renewed (heard_answer number a h) in
        let hears : MemberState = member_hearing h c a m in
        let inside : Contains new.members hears =
        kept (λ (z : MemberState). not (is_ended_by_move (Renew m.who.lockspace (renewed + fail (heard_answer number a h).config.timing)) z)) (heard_answer number a h).members hears refl
        (got_inside (heard_answer number a h).members at_member.0 hears at_member.1) in
        let joined : Contains (member_replying new j (Generation generation) hears) (record hears { joined = true }) =
        subst (λ b. Contains (cond b (record hears { joined = true } ∷ []) (hears ∷ [])) (record hears { joined = true })) (sym (ap (λ b. b && some_is (λ q. q == j) m.who.job) joins ∙ ap (some_is (λ q. q == j)) its ∙ number_itself j))
        (contains_first (record hears { joined = true }) []) in
        let at = at_some (with_reply j (Generation generation) new).members (record hears { joined = true }) (flat_has (member_replying new j (Generation generation)) new.members hears (record hears { joined = true }) inside joined) in
        record {
          place = at.0;
          member = record hears { joined = true };
          there = at.1;
          its = refl;
          fits = record { later = refl; job = refl; turn = ap (λ b. not (true && b)) is_idle; generation = refl; value = refl; lease = refl; again = refl };
        }

    -- What it decides may be carried.
    same_job : (i : ℕ) → m.who.job ≡ Some i → j ≡ i
    same_job i other = some_value j i (sym its ∙ other)

    may_carry : (next : DeltaNext) → IsJoinDecision next → IsAlone j (heard_answer number a h) → EndsBegun (Unregister m.who.lockspace) (heard_answer number a h)
        → MayCarry (Told number a) (heard_answer number a h) (with_input (Told number a) x) m.who next
    may_carry Nothing one alone ends = tt
    may_carry (RefuseJoin r) one alone ends =
        λ i other. subst (λ n. MayReply (Told number a) (heard_answer number a h) (with_input (Told number a) x) n r × (is_join_done r ≡ false) × IsAlone n (heard_answer number a h)) (same_job i other)
        (may number c a h x k m to (not_refused_too m.joined m.refused joins) j r one.1 runs, one.0, alone)
    may_carry (RegisterAndRead step') one alone ends = λ i other. subst (λ n. MayRead (registering m.who (heard_answer number a h)) m.who (Joining n step')) (same_job i other) (may_read step' one)
    may_carry (WriteClaim d) one alone ends = λ i other. subst (λ n. MayWrite (heard_answer number a h) m.who (Joining n ClaimWrite) d) (same_job i other) (may_write ClaimWrite d refl)
    may_carry Disconnect one alone ends = ends
    may_carry (WriteFirst d) one alone ends = λ i other. subst (λ n. MayWrite (heard_answer number a h) m.who (Joining n FirstRenewal) d) (same_job i other) (may_write FirstRenewal d refl)
    may_carry (Join generation renewed) one alone ends =
        λ i other. subst (λ n. MayReply (Told number a) (heard_answer number a h) (with_input (Told number a) x) n (Generation generation) × MaySurvey (with_reply n (Generation generation) (connecting m.who renewed (heard_answer number a h))) m.who)
        (same_job i other) (may number c a h x k m to (not_refused_too m.joined m.refused joins) j (Generation generation) refl runs, may_survey generation renewed)
    may_carry (ReadOwn step') one alone ends = absurd one
    may_carry (MoveConnection renewed) one alone ends = absurd one
    may_carry (WriteRenewal d) one alone ends = absurd one
    may_carry (WriteFree n d) one alone ends = absurd one
    may_carry (EndLeaving n r) one alone ends = absurd one

    going : (next : DeltaNext) → IsDecided number c a h x m step next → IsAlone j (heard_answer number a h) → EndsBegun (Unregister m.who.lockspace) (heard_answer number a h)
        → Follows number a h x (carrying m.who next (heard_answer number a h))
    unfolding after_answer_of
    going next decided alone ends =
        let free : m.refused ≡ false = not_refused_too m.joined m.refused joins in
        let d = theirs number c a h x k m to free in
        let told : Step = with_input (Told number a) x in
        let new : HostState = heard_answer number a h in
        let rule : next ≡ next_in_joining (delta_of_session x.setting m.who) m.known.generation (calls_of (seen told) m.who) new.reading d.0 step a = decided d.0 d.2 in
        let one : IsJoinDecision next =
        subst IsJoinDecision (sym rule) (join_decides (delta_of_session x.setting m.who) m.known.generation (calls_of (seen told) m.who) new.reading d.0 step a) in
        let due : after_join_answer m.who j step d.0 a told ≡ carry_delta m.who next told =
        (answers_decide (Told number a) new told (place number c a h x k m to free).0 (member_hearing h c a m) d.0 c a (call number c a h x k m to free)).joining j step (ap job_of is)
        ∙ ap (λ b. elim b as (λ z. Step) [
          | false ↦ remove_of_refused m.who told
          | true ↦ carry_delta m.who (next_in_joining (delta_of_session x.setting m.who) m.known.generation (calls_of (seen told) m.who) new.reading d.0 step a) told
        ]) runs
        ∙ ap (λ z. carry_delta m.who z told) (sym rule) in
        follows number c a h x k m to free (Joining j step) is (carrying m.who next new)
        (subst (λ y. Stands (Told number a) (carrying m.who next new) y) (sym due) (decisions_are_carried (Told number a) new told m.who next after (may_carry next one alone ends)))

  -- ---- it was refused before

  refused : running_in (heard_answer number a h) j ≡ false → (m.refused ≡ true → EndsBegun (Unregister m.who.lockspace) (heard_answer number a h))
      → Follows number a h x
      (cond (m.refused && not (has_write_open (heard_answer number a h) m.who.number)) (removing m.who.lockspace (heard_answer number a h)) (heard_answer number a h))
  unfolding after_answer_of after_join_answer
  refused stopped ends =
      let told : Step = with_input (Told number a) x in
      let new : HostState = heard_answer number a h in
      let d = answers_are_theirs.member number c a h x k m to.stands to.is_open to.at to.there (same_number c.session m.who.number to.its) in
      let stops : is_running (seen told) j ≡ false = (jobs_answer (Told number a) new told after).called d.0 j d.1 (ap (λ (z : OpenCall). job_of z.purpose) d.2 ∙ ap job_of is) ∙ stopped in
      let due : after_join_answer m.who j step d.0 a told ≡ remove_of_refused m.who told =
      ap (λ b. elim b as (λ z. Step) [
        | false ↦ remove_of_refused m.who told
        | true ↦ carry_delta m.who (next_in_joining (delta_of_session x.setting m.who) (generation_of (seen told) m.who) (calls_of (seen told) m.who) x.reading d.0 step a) told
      ]) stops in
      subst (λ y. Stands (Told number a) (cond (m.refused && not (has_write_open new m.who.number)) (removing m.who.lockspace new) new) y)
      (sym (d.3 ∙ ap (λ (p : Purpose). after_answer_of m.who d.0 p a told) is ∙ due ∙ refusals_are_told.removed number c a h x k m to.stands to.is_open to.fits to.at to.there))
      (by (m.refused && not (has_write_open new m.who.number)) refl) where
        by : (b : Bool) → (m.refused && not (has_write_open (heard_answer number a h) m.who.number)) ≡ b → Stands (Told number a) (cond b (removing m.who.lockspace (heard_answer number a h)) (heard_answer number a h)) (when b (remove_connection m.who.lockspace) (with_input (Told number a) x))
        by true is =
            ends_are_taken.connection (Told number a) (heard_answer number a h) (with_input (Told number a) x) m.who.lockspace after
            (ends (and_true m.refused (not (has_write_open (heard_answer number a h) m.who.number)) is).0)
        by false is = after

pub joinings_follow : JoiningsFollow
joinings_follow =
    record {
      going = λ number c a h x k m j step next to is its joins bare runs decided alone ends. going number c a h x k m j step to is its joins bare runs next decided alone ends;
      refused = λ number c a h x k m j step to is stopped ends. refused number c a h x k m j step to is stopped ends;
    }
