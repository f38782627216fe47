-- An answer: the call that it answers is found, its session hears it, and what the purpose of the call makes due is done.
use Rattle.sl_host_law.specs.Answers.CarriedDecisions.{carrying}
use Rattle.sl_host_law.specs.Answers.LeaseAnswers.{area_of}
use Rattle.sl_host_law.specs.Answers.LeaseDecisions.{carrying_lease}
use Rattle.sl_host_law.specs.Answers.Requests.{answering_job, on_given, requesting_for, seeing_request}
use Rattle.sl_host_law.specs.Answers.Surveys.{surveyed_in}
use Rattle.sl_delta.specs.DeltaDecisions.{after_join}
use Rattle.sl_delta.specs.OwnSector.{OwnState}
use Rattle.sl_due.specs.DueRequests.{value_reply}
use Rattle.sl_host_state.specs.HeardInputs.{heard_answer, member_hearing, renewing_hearing}
use Rattle.sl_host_state.specs.KeptState.{HostState, MemberState}
use Rattle.sl_host_state.specs.MadeEffects.{has_write_open, with_reply}
use Rattle.sl_host_state.specs.NewHost.{sizes_in}
use Rattle.sl_host_state.specs.declared.kept_parts.OpenCall.{OpenCall}
use Rattle.sl_host_law.specs.Steps.Leases.{answered_next}
use Rattle.sl_host_law.specs.Steps.Passes.{member_numbered}
use Rattle.sl_host_law.specs.StepParts.Ends.{removing}
use Rattle.sl_host_law.specs.Questions.Answers.{set_reply_in}
use Rattle.sl_host_law.specs.Questions.Jobs.{aim_in, goes_on_in, running_in}
use Rattle.sl_trace.specs.DeltaDecisions.{next_after_free, next_after_renewal}
use Rattle.sl_trace.specs.declared.delta.DeltaNext.{DeltaNext}
use Rattle.sl_trace.specs.declared.effects.JoinStep.{JoinStep}
use Rattle.sl_trace.specs.declared.effects.LeaseStep.{LeaseStep}
use Rattle.sl_trace.specs.declared.effects.Purpose.TheVariants.{Joining, Lease, Leaving, Renewal, RequestRead, RequestWrite, SeeRequest, Survey, ValueRead, ValueWrite}
use Rattle.sl_trace.specs.declared.effects.Purpose.{Purpose}
use Rattle.sl_trace.specs.declared.effects.Work.{Work}
use Rattle.sl_trace.specs.declared.input.Answer.{Answer}
use Rattle.sl_trace.specs.declared.reply.Reply.TheVariants.{Done}
use Rattle.std.specs.Prelude.{None, Option, Some, cond, find, is_some, not, ℕ, ◌&&◌, ◌==◌}

-- What is kept of the member's own sector.
abbrev pub own_of : HostState → MemberState → OwnState
own_of h m =
    record {
      timing = h.config.timing;
      sizes = sizes_in h.config.layout;
      host = h.config.name;
      lockspace = m.who.lockspace;
      id = m.who.id;
      joining = m.joining;
      generation = m.known.generation;
      seq = m.known.seq;
      renewed = m.known.renewed;
      busy = m.known.busy;
      freed = m.known.freed;
    }

-- What a joining decides on an answer.
abbrev pub joining_next : HostState → MemberState → OpenCall → JoinStep → Answer → DeltaNext
joining_next h m c step a = after_join (own_of h m) h.reading c.number c.reading step a

-- A joining goes on while its job runs. One that was refused loses its connection with its last write.
abbrev pub joining_on : HostState → MemberState → OpenCall → ℕ → JoinStep → Answer → HostState → HostState
joining_on h m c j step a g =
    cond (running_in g j) (carrying m.who (joining_next h m c step a) g)
    (cond (m.refused && not (has_write_open g m.who.number)) (removing m.who.lockspace g) g)

-- Work on a lease goes on to its end.
abbrev pub working_on : MemberState → OpenCall → Work → LeaseStep → Answer → HostState → HostState
working_on m c work step a g =
    cond (goes_on_in g m work)
    (elim (aim_in g work) [ None ↦ g | Some aim ↦ carrying_lease m (area_of g c) work (answered_next g m (area_of g c) c aim step a) g ]) g

-- By the purpose of the call: h has not heard the answer, g has.
abbrev pub answering_for : Purpose → HostState → MemberState → OpenCall → Answer → HostState → HostState
answering_for (Joining j step) h m c a g = joining_on h m c j step a g
answering_for Renewal h m c a g = carrying m.who (next_after_renewal (is_some (renewing_hearing h c a m).recovery) c.reading a) g
answering_for Survey h m c a g = on_given a (surveyed_in (member_hearing h c a m)) g
answering_for (Leaving j) h m c a g = carrying m.who (next_after_free j c.number a) g
answering_for (Lease work step) h m c a g = working_on (member_hearing h c a m) c work step a g
answering_for (RequestRead j) h m c a g = answering_job j c a (requesting_for m.who j) (λ x. x) g
answering_for (RequestWrite j owner) h m c a g = answering_job j c a (λ bytes x. x) (with_reply j Done) g
answering_for SeeRequest h m c a g = on_given a (seeing_request (member_hearing h c a m) c) g
answering_for (ValueWrite j) h m c a g = answering_job j c a (λ bytes x. x) (with_reply j (set_reply_in c)) g
answering_for (ValueRead j) h m c a g = answering_job j c a (λ bytes x. with_reply j (value_reply x.config.layout bytes) x) (λ x. x) g

-- Where a member has made it; that of a session which is gone is heard, and does nothing.
abbrev pub answering_by : Option MemberState → ℕ → OpenCall → Answer → HostState → HostState
answering_by None number c a h = heard_answer number a h
answering_by (Some m) number c a h = answering_for c.purpose h m c a (heard_answer number a h)

-- The whole of an answer to the call of this number.
abbrev pub answering : ℕ → Answer → HostState → HostState
answering number a h = elim (find (λ c. c.number == number) h.unanswered) [ None ↦ h | Some c ↦ answering_by (member_numbered h c.session) number c a h ]
