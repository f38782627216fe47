-- What an answer makes due, by what is kept: of whom it is asked, and for each purpose what then is done. Decisions on a lease and on an
-- id's sector keep the calls as an argument: their own states answer for those.
use Rattle.sl_area.specs.AreaSizes.{Layout}
use Rattle.sl_due.specs.DueAnswers.{after_answer, after_answer_of, for_job, set_reply}
use Rattle.sl_due.specs.CarriedDelta.{after_free, after_join_answer, after_renewal, after_survey, carry_delta, is_session_asked, see_requests}
use Rattle.sl_due.specs.DueTimeOuts.{remove_of_refused}
use Rattle.sl_due.specs.DueRecovery.{send, signal_and_refuse}
use Rattle.sl_due.specs.CarriedLease.{after_lease_answer, carry_lease, with_command}
use Rattle.sl_due.specs.DueRequests.{after_request_read, after_see_request, after_value_read, signal_of_request}
use Rattle.sl_due.specs.Steps.{Step, add_reply, seen, when, with_input, with_some}
use Rattle.sl_host_law.specs.SharedFacts.AtInput.{IsAtInput}
use Rattle.sl_host_state.specs.KeptState.{HostState, MemberState}
use Rattle.sl_host_state.specs.HostStands.{Stands, kept_call}
use Rattle.sl_host_state.specs.declared.kept_parts.OpenCall.{OpenCall}
use Rattle.sl_trace.specs.LeaseDecisions.{LeasePlace, lease_next, settle_begin, within_turn}
use Rattle.sl_trace.specs.Conversions.{convert_next}
use Rattle.sl_trace.specs.Releases.{release_next}
use Rattle.sl_trace.specs.Leases.{LeaseKnown, known_of, lease_calls, lease_step}
use Rattle.sl_trace.specs.declared.lease.Aim.TheVariants.{Converts, Releases, Settles}
use Rattle.sl_trace.specs.declared.lease.Aim.{Aim}
use Rattle.sl_trace.specs.declared.lease.LeaseNext.{LeaseNext}
use Rattle.sl_host_law.specs.Questions.Jobs.{aim_in, command_in, goes_on_in, running_in}
use Rattle.sl_host_law.specs.Questions.Members.{IsMemberAt, begins_by_read_in, exclusive_at, me_in, over_in, shared_at}
use Rattle.sl_host_law.specs.Replies.Answers.{IsOpen}
use Rattle.sl_trace.specs.DeltaDecisions.{delta_of_session, next_after_free, next_after_renewal, next_in_joining}
use Rattle.sl_trace.specs.Sessions.{calls_of, is_present}
use Rattle.sl_trace.specs.Traces.{Submitted, is_orphan, job_of, submitted}
use Rattle.sl_trace.specs.declared.effects.JoinStep.{JoinStep}
use Rattle.sl_trace.specs.declared.effects.LeaseStep.{LeaseStep}
use Rattle.sl_trace.specs.declared.effects.Mode.{Mode}
use Rattle.sl_trace.specs.declared.effects.Spot.{Spot}
use Rattle.sl_trace.specs.declared.effects.Work.{Work}
use Rattle.sl_trace.specs.declared.input.Answer.TheVariants.{Failed, Read, Written}
use Rattle.sl_trace.specs.declared.input.Answer.{Answer}
use Rattle.sl_trace.specs.declared.input.Input.TheVariants.{Answer as Told, Wake}
use Rattle.sl_trace.specs.declared.input.Input.{Input}
use Rattle.sl_trace.specs.declared.reply.Reply.TheVariants.{Done, IoFault, ValueSet}
use Rattle.sl_trace.specs.declared.reply.Reply.{Reply}
use Rattle.std.specs.List.{list_any}
use Rattle.std.specs.Option.{option_map_or}
use Rattle.std.specs.Prelude.{Contains, List, None, Some, false, is_some, not, option_map, slice_get, true, ℕ, ◌%◌, ◌-◌, ◌==◌, ◌≡◌}

-- ---- of whom it is asked

pub record AnswersAreTheirs : Type 0 where
  -- of the member that made the call
  pub member : (number : ℕ) (c : OpenCall) (a : Answer) (h : HostState) (x : Step) (k : ℕ) (m : MemberState) → Stands Wake h x → IsOpen h number c → IsAtInput h
      → slice_get h.members k ≡ Some m → c.session ≡ m.who.number
      → (d : Submitted) × Contains (submitted (seen (with_input (Told number a) x))) d × (kept_call d ≡ c)
      × (after_answer (is_present (seen x)) number a (with_input (Told number a) x) ≡ after_answer_of m.who d c.purpose a (with_input (Told number a) x))
  -- that of a session which is gone does nothing
  pub nobody : (number : ℕ) (c : OpenCall) (a : Answer) (h : HostState) (x : Step) → Stands Wake h x → IsOpen h number c → IsAtInput h
      → list_any (λ m. c.session == m.who.number) h.members ≡ false → after_answer (is_present (seen x)) number a (with_input (Told number a) x) ≡ with_input (Told number a) x

-- ---- what is done

-- The area of the call.
abbrev pub spot_in : Layout → OpenCall → Spot
spot_in g c = record { path = c.path; base = c.offset - c.offset % g.area }

-- Where the member's leases stand.
abbrev pub place_in : HostState → MemberState → LeasePlace
place_in h m = record { layout = h.config.layout; lockspace = m.who.lockspace }

-- What is known of its lease, up to its calls.
abbrev pub known_in : HostState → MemberState → Step → Spot → LeaseKnown
known_in h m x at =
    known_of h.config.layout m.who.lockspace (me_in m) (is_some (shared_at h m at)) (option_map (λ g. g.lver) (exclusive_at h m at)) (over_in m)
    (lease_calls x.setting (seen x) m.who at)

-- What its lease does next: after an answer to its call, where it is settled, after a release, and for a conversion.
abbrev pub next_in : HostState → MemberState → Step → Spot → OpenCall → Aim → LeaseStep → Answer → LeaseNext
next_in h m x at c aim step a = within_turn (place_in h m) (known_in h m x at) aim (lease_next (place_in h m) (known_in h m x at) aim c.number c.lver step a)

abbrev pub settling_in : HostState → MemberState → Step → Spot → LeaseNext
settling_in h m x at = within_turn (place_in h m) (known_in h m x at) Settles (settle_begin (place_in h m) (known_in h m x at))

abbrev pub releasing_in : HostState → MemberState → Step → Spot → Mode → ℕ → LeaseNext
releasing_in h m x at mode lver = within_turn (place_in h m) (known_in h m x at) Releases (release_next (place_in h m) (known_in h m x at) mode lver)

abbrev pub converting_in : HostState → MemberState → Step → Spot → Mode → List ℕ → LeaseNext
converting_in h m x at mode name = within_turn (place_in h m) (known_in h m x at) (Converts mode) (convert_next (known_in h m x at) mode name)

-- For a job that runs: what a read gives, that a write is done, or the fault.
abbrev pub for_job_in : HostState → ℕ → OpenCall → Answer → (List ℕ → Step → Step) → (Step → Step) → Step → Step
for_job_in h j c a on_bytes on_done x =
    elim (running_in h j) [
      | false ↦ x
      | true ↦ elim a [ Read bytes ↦ on_bytes bytes x | Written ↦ on_done x | Failed ↦ add_reply j (IoFault c.number) x ]
    ]

-- The reply to a write of a value.
abbrev pub set_reply_in : OpenCall → Reply
set_reply_in c = option_map_or (λ v. ValueSet v.lver v.seq) c.value Done

-- After an answer of a joining.
abbrev pub joining_in_step : HostState → MemberState → ℕ → JoinStep → Submitted → Answer → Step → Step
joining_in_step h m j step d a x =
    elim (running_in h j) [
      | false ↦ remove_of_refused m.who x
      | true ↦ carry_delta m.who
          (next_in_joining (delta_of_session x.setting m.who) m.known.generation (calls_of (seen x) m.who) h.reading d step a) x
    ]

-- After a read of all ids.
abbrev pub survey_in_step : HostState → MemberState → List ℕ → Step → Step
survey_in_step h m bytes x =
    when m.joined (λ y.
    when (is_session_asked y.setting m.who bytes) (see_requests m.who)
    (when (begins_by_read_in h m.renewing.recovery) (signal_and_refuse m.who None) y)) x

-- After an answer of a lease, where its work goes on.
abbrev pub lease_in_step : HostState → MemberState → OpenCall → Work → LeaseStep → Answer → Step → Step
lease_in_step h m c work step a x =
    elim (goes_on_in h m work) [
      | false ↦ x
      | true ↦ with_some (aim_in h work) (λ aim.
          carry_lease m.who (spot_in h.config.layout c) work (next_in h m x (spot_in h.config.layout c) c aim step a)) x
    ]

-- After the read of a request under an exclusive holding.
abbrev pub seen_request_in : HostState → MemberState → OpenCall → List ℕ → Step → Step
seen_request_in h m c bytes x =
    with_some (exclusive_at h m (spot_in h.config.layout c)) (λ g.
    when (not (is_orphan g)) (with_some (signal_of_request h.config.layout bytes g) (send g.process))) x

-- The call is one of the trace's, made by the member, and this is kept of it.
pub record IsCallOf (i : Input) (h : HostState) (x : Step) (k : ℕ) (m : MemberState) (d : Submitted) (c : OpenCall) : Type 0 where
  pub at : IsMemberAt i h x k m
  pub inside : Contains (submitted (seen x)) d
  pub kept : kept_call d ≡ c

-- For each purpose.
pub record AnswerDecides (h : HostState) (x : Step) (m : MemberState) (d : Submitted) (c : OpenCall) (a : Answer) : Type 0 where
  pub joining : (j : ℕ) (step : JoinStep) → job_of c.purpose ≡ Some j → after_join_answer m.who j step d a x ≡ joining_in_step h m j step d a x
  pub renewal : after_renewal m.who d a x ≡ carry_delta m.who (next_after_renewal (is_some m.renewing.recovery) c.reading a) x
  pub survey : (bytes : List ℕ) → after_survey m.who bytes x ≡ survey_in_step h m bytes x
  pub free : (j : ℕ) → after_free m.who j d a x ≡ carry_delta m.who (next_after_free j c.number a) x
  pub lease : (work : Work) (step : LeaseStep) → lease_step c.purpose ≡ Some (work, step) → after_lease_answer m.who work step d a x ≡ lease_in_step h m c work step a x
  pub request_read : (j : ℕ) → job_of c.purpose ≡ Some j
      → for_job j d a (λ bytes. with_command j (after_request_read m.who j bytes)) (λ y. y) x
      ≡ for_job_in h j c a (λ bytes. with_some (command_in h j) (after_request_read m.who j bytes)) (λ y. y) x
  pub request_write : (j : ℕ) → job_of c.purpose ≡ Some j → for_job j d a (λ bytes y. y) (add_reply j Done) x ≡ for_job_in h j c a (λ bytes y. y) (add_reply j Done) x
  pub see_request : (bytes : List ℕ) → after_see_request m.who d bytes x ≡ seen_request_in h m c bytes x
  pub value_write : (j : ℕ) → job_of c.purpose ≡ Some j
      → for_job j d a (λ bytes y. y) (add_reply j (set_reply d)) x ≡ for_job_in h j c a (λ bytes y. y) (add_reply j (set_reply_in c)) x
  pub value_read : (j : ℕ) → job_of c.purpose ≡ Some j
      → for_job j d a (λ bytes. after_value_read j bytes) (λ y. y) x ≡ for_job_in h j c a (λ bytes. after_value_read j bytes) (λ y. y) x

abbrev pub AnswersDecide : Type 0
AnswersDecide =
    (i : Input) (h : HostState) (x : Step) (k : ℕ) (m : MemberState) (d : Submitted) (c : OpenCall) (a : Answer) → IsCallOf i h x k m d c → AnswerDecides h x m d c a
