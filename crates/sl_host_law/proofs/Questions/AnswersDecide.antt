-- What an answer makes due is told by what is kept.
use Rattle.sl_area.specs.AreaSizes.{Layout}
use Rattle.sl_due.specs.DueAnswers.{for_job, set_reply}
use Rattle.sl_due.specs.CarriedDelta.{after_free, after_join_answer, after_renewal, after_survey, begins_by_read, carry_delta, is_session_asked, see_requests}
use Rattle.sl_due.specs.DueTimeOuts.{remove_of_refused}
use Rattle.sl_due.specs.DueRecovery.{send, signal_and_refuse}
use Rattle.sl_due.specs.CarriedLease.{after_lease_answer, carry_lease, next_of_lease, with_command}
use Rattle.sl_due.specs.DueRequests.{after_request_read, after_see_request, after_value_read, signal_of_request}
use Rattle.sl_due.specs.Steps.{Step, add_reply, seen, when, with_some}
use Rattle.sl_host_state.specs.KeptState.{Config, HostState, MemberState}
use Rattle.sl_host_state.specs.HostStands.{config_of, kept_call, pair_of}
use Rattle.sl_host_state.specs.declared.kept_parts.OpenCall.{OpenCall}
use Rattle.sl_trace.specs.Jobs.{aim_of}
use Rattle.sl_trace.specs.LeaseDecisions.{LeasePlace, lease_next, within_turn}
use Rattle.sl_trace.specs.Leases.{LeaseKnown, exclusive_on, known, lease_step, lver_written, spot_of_call, value_written}
use Rattle.sl_trace.specs.declared.lease.Aim.{Aim}
use Rattle.sl_host_law.proofs.Questions.JobsAnswer.{jobs_answer, work_goes_on}
use Rattle.sl_host_law.proofs.Questions.MembersAnswer.{members_answer}
use Rattle.sl_host_law.specs.Questions.Answers.{AnswerDecides, AnswersDecide, IsCallOf, for_job_in, joining_in_step, known_in, lease_in_step, next_in, place_in, seen_request_in, set_reply_in, spot_in, survey_in_step}
use Rattle.sl_host_law.specs.Questions.Jobs.{JobAnswers, aim_in, command_in, goes_on_in, running_in}
use Rattle.sl_host_law.specs.Questions.Members.{MemberAnswers, begins_by_read_in, exclusive_at}
use Rattle.sl_sector.specs.declared.sector.ValueRec.{ValueRec}
use Rattle.sl_trace.specs.DeltaDecisions.{delta_of_session, next_after_free, next_after_renewal, next_in_joining}
use Rattle.sl_trace.specs.Sessions.{calls_of, generation_of, recovery_of}
use Rattle.sl_sector.specs.declared.sector.Owner.{Owner}
use Rattle.sl_trace.specs.declared.session.Begun.{Begun}
use Rattle.sl_trace.specs.Traces.{Submitted, is_orphan, is_running, job_of}
use Rattle.sl_trace.specs.declared.command.Command.{Command}
use Rattle.sl_trace.specs.declared.effects.Grant.{Grant}
use Rattle.sl_trace.specs.declared.effects.JoinStep.{JoinStep}
use Rattle.sl_trace.specs.declared.effects.LeaseStep.{LeaseStep}
use Rattle.sl_trace.specs.declared.effects.Work.{Work}
use Rattle.sl_trace.specs.declared.input.Answer.TheVariants.{Failed, Read, Written}
use Rattle.sl_trace.specs.declared.input.Answer.{Answer}
use Rattle.sl_trace.specs.declared.input.Input.{Input}
use Rattle.sl_trace.specs.declared.reply.Reply.TheVariants.{Done, IoFault, ValueSet}
use Rattle.sl_trace.specs.declared.lease.LeaseNext.{LeaseNext}
use Rattle.std.proofs.Common.{ap, refl, ◌∙◌}
use Rattle.std.specs.Option.{option_map_or}
use Rattle.std.specs.Prelude.{Bool, List, None, Option, Some, false, is_some, not, option_map, true, ℕ, ◌≡◌}

module _ (i : Input) (h : HostState) (x : Step) (k : ℕ) (m : MemberState) (d : Submitted) (c : OpenCall) (a : Answer) (call : IsCallOf i h x k m d c) where
  its : MemberAnswers h x m
  its = members_answer i h x k m call.at

  of_jobs : JobAnswers h x
  of_jobs = jobs_answer i h x call.at.stands

  config : config_of x.setting ≡ h.config
  config = call.at.stands.keeps.config

  reading : x.reading ≡ h.reading
  reading = call.at.stands.reading

  purpose : d.call.purpose ≡ c.purpose
  purpose = ap (λ (z : OpenCall). z.purpose) call.kept

  number : d.call.number ≡ c.number
  number = ap (λ (z : OpenCall). z.number) call.kept

  runs : (j : ℕ) → job_of c.purpose ≡ Some j → is_running (seen x) j ≡ running_in h j
  runs j is = of_jobs.called d j call.inside (ap job_of purpose ∙ is)

  spot : spot_of_call x.setting.layout d ≡ spot_in h.config.layout c
  spot = ap (λ (g : Layout). spot_in g (kept_call d)) (ap (λ (z : Config). z.layout) config) ∙ ap (spot_in h.config.layout) call.kept

  -- ---- on the id's sector

  joining : (j : ℕ) (step : JoinStep) → job_of c.purpose ≡ Some j → after_join_answer m.who j step d a x ≡ joining_in_step h m j step d a x
  unfolding after_join_answer
  joining j step is =
      ap (λ b. elim b as (λ z. Step) [
        | false ↦ remove_of_refused m.who x
        | true ↦ carry_delta m.who (next_in_joining (delta_of_session x.setting m.who) (generation_of (seen x) m.who) (calls_of (seen x) m.who) x.reading d step a) x
      ]) (runs j is)
      ∙ ap (λ n. elim (running_in h j) as (λ z. Step) [
        | false ↦ remove_of_refused m.who x
        | true ↦ carry_delta m.who (next_in_joining (delta_of_session x.setting m.who) n (calls_of (seen x) m.who) x.reading d step a) x
      ]) (ap (λ (o : Owner). o.generation) its.me)
      ∙ ap (λ r. elim (running_in h j) as (λ z. Step) [
        | false ↦ remove_of_refused m.who x
        | true ↦ carry_delta m.who (next_in_joining (delta_of_session x.setting m.who) m.known.generation (calls_of (seen x) m.who) r d step a) x
      ]) reading

  renewal : after_renewal m.who d a x ≡ carry_delta m.who (next_after_renewal (is_some m.renewing.recovery) c.reading a) x
  unfolding after_renewal
  renewal =
      ap (λ (o : Option Begun). carry_delta m.who (next_after_renewal (is_some o) d.reading a) x) its.recovery
      ∙ ap (λ (z : OpenCall). carry_delta m.who (next_after_renewal (is_some m.renewing.recovery) z.reading a) x) call.kept

  survey : (bytes : List ℕ) → after_survey m.who bytes x ≡ survey_in_step h m bytes x
  unfolding after_survey
  survey bytes =
      ap (λ b. when b (λ y.
      when (is_session_asked y.setting m.who bytes) (see_requests m.who)
      (when (begins_by_read (seen y) (recovery_of y.setting (seen y) m.who)) (signal_and_refuse m.who None) y)) x) its.joined
      ∙ by m.joined where
        by : (b : Bool)
            → when b (λ y.
            when (is_session_asked y.setting m.who bytes) (see_requests m.who)
            (when (begins_by_read (seen y) (recovery_of y.setting (seen y) m.who)) (signal_and_refuse m.who None) y)) x
            ≡ when b (λ y.
            when (is_session_asked y.setting m.who bytes) (see_requests m.who)
            (when (begins_by_read_in h m.renewing.recovery) (signal_and_refuse m.who None) y)) x
        by true = ap (λ b. when (is_session_asked x.setting m.who bytes) (see_requests m.who) (when b (signal_and_refuse m.who None) x)) its.by_read
        by false = refl

  free : (j : ℕ) → after_free m.who j d a x ≡ carry_delta m.who (next_after_free j c.number a) x
  unfolding after_free
  free j = ap (λ n. carry_delta m.who (next_after_free j n a) x) number

  -- ---- on a lease

  lease : (work : Work) (step : LeaseStep) → lease_step c.purpose ≡ Some (work, step) → after_lease_answer m.who work step d a x ≡ lease_in_step h m c work step a x
  unfolding after_lease_answer
  lease work step is =
      ap (λ b. elim b as (λ z. Step) [
        | false ↦ x
        | true ↦ with_some (aim_of x.setting (seen x) work) (λ aim y. carry_lease m.who (spot_of_call y.setting.layout d) work (next_of_lease y.setting (seen y) m.who (spot_of_call y.setting.layout d) aim d step a) y) x
      ]) (work_goes_on i h x k m d work step call.at call.inside (ap lease_step purpose ∙ is))
      ∙ by (goes_on_in h m work) refl where
        -- What the lease decides, by where it stands, what is known of it, and its call.
        next_by : LeasePlace → LeaseKnown → Aim → ℕ → ℕ → LeaseNext
        next_by p known aim n lver = within_turn p known aim (lease_next p known aim n lver step a)

        of_aim : (aim : Aim) → carry_lease m.who (spot_of_call x.setting.layout d) work (next_of_lease x.setting (seen x) m.who (spot_of_call x.setting.layout d) aim d step a) x
            ≡ carry_lease m.who (spot_in h.config.layout c) work (next_in h m x (spot_in h.config.layout c) c aim step a) x
        of_aim aim =
            ap (λ at. carry_lease m.who at work (next_of_lease x.setting (seen x) m.who at aim d step a) x) spot
            ∙ ap (λ (z : Config). carry_lease m.who (spot_in h.config.layout c) work (next_by (record { layout = z.layout; lockspace = m.who.lockspace }) (known x.setting (seen x) m.who (spot_in h.config.layout c)) aim d.call.number (lver_written d)) x) config
            ∙ ap (λ (q : LeaseKnown). carry_lease m.who (spot_in h.config.layout c) work (next_by (place_in h m) q aim d.call.number (lver_written d)) x) (its.lease (spot_in h.config.layout c))
            ∙ ap (λ (z : OpenCall). carry_lease m.who (spot_in h.config.layout c) work (next_by (place_in h m) (known_in h m x (spot_in h.config.layout c)) aim z.number z.lver) x) call.kept

        of_aims : (o : Option Aim)
            → with_some o (λ aim y. carry_lease m.who (spot_of_call y.setting.layout d) work (next_of_lease y.setting (seen y) m.who (spot_of_call y.setting.layout d) aim d step a) y) x
            ≡ with_some o (λ aim. carry_lease m.who (spot_in h.config.layout c) work (next_in h m x (spot_in h.config.layout c) c aim step a)) x
        of_aims None = refl
        of_aims (Some aim) = of_aim aim

        by : (b : Bool) → goes_on_in h m work ≡ b
            → elim b as (λ z. Step) [
              | false ↦ x
              | true ↦ with_some (aim_of x.setting (seen x) work) (λ aim y. carry_lease m.who (spot_of_call y.setting.layout d) work (next_of_lease y.setting (seen y) m.who (spot_of_call y.setting.layout d) aim d step a) y) x
            ]
            ≡ elim b as (λ z. Step) [
              | false ↦ x
              | true ↦ with_some (aim_in h work) (λ aim. carry_lease m.who (spot_in h.config.layout c) work (next_in h m x (spot_in h.config.layout c) c aim step a)) x
            ]
        by false goes = refl
        by true goes =
            ap (λ o. with_some o (λ (aim : Aim) (y : Step). carry_lease m.who (spot_of_call y.setting.layout d) work (next_of_lease y.setting (seen y) m.who (spot_of_call y.setting.layout d) aim d step a) y) x) (of_jobs.aim m work goes)
            ∙ of_aims (aim_in h work)

  -- ---- requests and values

  for_one : (j : ℕ) → job_of c.purpose ≡ Some j → (f g : List ℕ → Step → Step) (done_f done_g : Step → Step) → (running_in h j ≡ true → (bytes : List ℕ) → f bytes x ≡ g bytes x) → done_f x ≡ done_g x
      → for_job j d a f done_f x ≡ for_job_in h j c a g done_g x
  for_one j is f g done_f done_g reads writes =
      ap (λ b. elim b as (λ z. Step) [
        | false ↦ x
        | true ↦ elim a as (λ z. Step) [ Read bytes ↦ f bytes x | Written ↦ done_f x | Failed ↦ add_reply j (IoFault d.call.number) x ]
      ]) (runs j is) ∙ by (running_in h j) refl a where
        by : (b : Bool) → running_in h j ≡ b → (z : Answer)
            → elim b as (λ z. Step) [ false ↦ x | true ↦ elim z as (λ z. Step) [ Read bytes ↦ f bytes x | Written ↦ done_f x | Failed ↦ add_reply j (IoFault d.call.number) x ] ]
            ≡ elim b as (λ z. Step) [ false ↦ x | true ↦ elim z as (λ z. Step) [ Read bytes ↦ g bytes x | Written ↦ done_g x | Failed ↦ add_reply j (IoFault c.number) x ] ]
        by false goes z = refl
        by true goes (Read bytes) = reads goes bytes
        by true goes Written = writes
        by true goes Failed = ap (λ n. add_reply j (IoFault n) x) number

  see_request : (bytes : List ℕ) → after_see_request m.who d bytes x ≡ seen_request_in h m c bytes x
  unfolding after_see_request
  see_request bytes =
      ap (λ at. with_some (exclusive_on (seen x) m.who at) (λ g. when (not (is_orphan g)) (with_some (signal_of_request x.setting.layout bytes g) (send g.process))) x) spot
      ∙ ap (λ (o : Option Grant). with_some o (λ g. when (not (is_orphan g)) (with_some (signal_of_request x.setting.layout bytes g) (send g.process))) x) (its.exclusive (spot_in h.config.layout c))
      ∙ ap (λ (z : Config). with_some (exclusive_at h m (spot_in h.config.layout c)) (λ g. when (not (is_orphan g)) (with_some (signal_of_request z.layout bytes g) (send g.process))) x) config

  set_is : set_reply d ≡ set_reply_in c
  set_is = by (value_written d) ∙ ap set_reply_in call.kept where
    by : (o : Option ValueRec) → option_map_or (λ v. ValueSet v.lver v.seq) o Done ≡ option_map_or (λ v. ValueSet v.lver v.seq) (option_map pair_of o) Done
    by None = refl
    by (Some v) = refl

  decides : AnswerDecides h x m d c a
  decides =
      record {
        joining = joining;
        renewal = renewal;
        survey = survey;
        free = free;
        lease = lease;
        request_read = λ j is.
            for_one j is (λ bytes. with_command j (after_request_read m.who j bytes)) (λ bytes. with_some (command_in h j) (after_request_read m.who j bytes)) (λ y. y) (λ y. y)
            (λ goes bytes. ap (λ (o : Option Command). with_some o (after_request_read m.who j bytes) x) (of_jobs.command j goes)) refl;
        request_write = λ j is. for_one j is (λ bytes y. y) (λ bytes y. y) (add_reply j Done) (add_reply j Done) (λ goes bytes. refl) refl;
        see_request = see_request;
        value_write = λ j is. for_one j is (λ bytes y. y) (λ bytes y. y) (add_reply j (set_reply d)) (add_reply j (set_reply_in c)) (λ goes bytes. refl) (ap (λ r. add_reply j r x) set_is);
        value_read = λ j is. for_one j is (λ bytes. after_value_read j bytes) (λ bytes. after_value_read j bytes) (λ y. y) (λ y. y) (λ goes bytes. refl) refl;
      }

pub answers_decide : AnswersDecide
answers_decide i h x k m d c a call = decides i h x k m d c a call
