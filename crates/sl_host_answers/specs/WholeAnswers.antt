-- The whole of an answer: what it makes due once the host has heard it, what is known of that, and how much it takes.
use Rattle.sl_area.specs.AreaSizes.{Sizes, layout_of}
use Rattle.sl_due.specs.DueRequests.{value_reply}
use Rattle.sl_host_answers.specs.Facts.{JoinKnown, ReadKnown, RequestKnown, SurveyKnown, WorkKnown}
use Rattle.sl_host_answers.specs.JoiningAnswers.{join_answer, joining_by}
use Rattle.sl_host_answers.specs.Surveys.{leases_of}
use Rattle.sl_host_answers.specs.declared.answers.Heard.TheVariants.{Failed as FailedSo, Sector, Sectors, Written as WrittenSo}
use Rattle.sl_host_answers.specs.declared.answers.Heard.{Heard}
use Rattle.sl_host_answers.specs.declared.own_sectors.JoinAnswer.{JoinAnswer}
use Rattle.sl_host_law.specs.Answers.CarriedDecisions.{carrying}
use Rattle.sl_host_law.specs.Answers.Requests.{answering_job, on_given, requesting_for, seeing_request}
use Rattle.sl_host_law.specs.Answers.Surveys.{surveyed_in}
use Rattle.sl_host_law.specs.Questions.Answers.{set_reply_in, spot_in}
use Rattle.sl_host_law.specs.Steps.Answers.{working_on}
use Rattle.sl_host_law.specs.Steps.Passes.{at_member}
use Rattle.sl_host_state.specs.HeardInputs.{heard_answer}
use Rattle.sl_host_state.specs.KeptState.{HostKept, HostState, MemberState, state_of}
use Rattle.sl_host_state.specs.MadeEffects.{with_reply}
use Rattle.sl_host_state.specs.declared.kept_parts.OpenCall.{OpenCall}
use Rattle.sl_host_work.specs.TimedWork.{ArePlaced}
use Rattle.sl_lease.specs.Bounds.{IsInstance}
use Rattle.sl_lease.specs.Reads.{sectors_read}
use Rattle.sl_lease.specs.Steps.{is_read_step}
use Rattle.sl_member.specs.HostMembers.{member_with}
use Rattle.sl_trace.specs.DeltaDecisions.{next_after_free, next_after_renewal}
use Rattle.sl_trace.specs.Sessions.{is_survey_purpose}
use Rattle.sl_trace.specs.declared.command.Command.{Command}
use Rattle.sl_trace.specs.declared.effects.LeaseStep.{LeaseStep}
use Rattle.sl_trace.specs.declared.effects.Purpose.TheVariants.{Joining, Lease, Leaving, Renewal, RequestRead, RequestWrite, SeeRequest, Survey, ValueRead, ValueWrite}
use Rattle.sl_trace.specs.declared.effects.Purpose.{Purpose}
use Rattle.sl_trace.specs.declared.effects.Work.{Work}
use Rattle.sl_trace.specs.declared.input.Answer.TheVariants.{Failed, Read, Written}
use Rattle.sl_trace.specs.declared.input.Answer.{Answer}
use Rattle.sl_trace.specs.declared.reply.Reply.TheVariants.{Done}
use Rattle.sl_host.specs.BookQuestions.{state_in}
use Rattle.sl_host.specs.HeardAnswers.{MayHear}
use Rattle.sl_words.specs.Bounds.{moments}
use Rattle.std.specs.Arc.{arc_value}
use Rattle.std.specs.Prelude.{Bool, IsTrue, List, None, Option, Result, Some, cond, false, find, is_some, length, option_map, true, ℕ, ◌*◌, ◌+◌, ◌<◌, ◌==◌, ◌≡◌, ◌≤◌}

-- ---- what is due

-- What the answer to a joining's call was decided to come to, of its member.
abbrev pub found_for : Purpose → HostState → OpenCall → Answer → Option MemberState → Option JoinAnswer
found_for (Joining j step) h c a o = option_map (join_answer h c step a) o
found_for p h c a o = None

-- A joining goes on as it was decided.
abbrev pub joined_on : ℕ → Option JoinAnswer → HostState → HostState
joined_on j None g = g
joined_on j (Some f) g = joining_by f j g

-- What is due of the member that made the call, once it has heard: of a joining nothing but that.
abbrev pub due_of : Purpose → OpenCall → Answer → MemberState → HostState → HostState
due_of (Joining j step) c a m g = g
due_of Renewal c a m g = carrying m.who (next_after_renewal (is_some m.renewing.recovery) c.reading a) g
due_of Survey c a m g = on_given a (surveyed_in m) g
due_of (Leaving j) c a m g = carrying m.who (next_after_free j c.number a) g
due_of (Lease work step) c a m g = working_on m c work step a g
due_of (RequestRead j) c a m g = answering_job j c a (requesting_for m.who j) (λ x. x) g
due_of (RequestWrite j owner) c a m g = answering_job j c a (λ bytes x. x) (with_reply j Done) g
due_of SeeRequest c a m g = on_given a (seeing_request m c) g
due_of (ValueWrite j) c a m g = answering_job j c a (λ bytes x. x) (with_reply j (set_reply_in c)) g
due_of (ValueRead j) c a m g = answering_job j c a (λ bytes x. with_reply j (value_reply x.config.layout bytes) x) (λ x. x) g

-- What is due of the host that has heard the answer, by the purpose of the call.
abbrev pub due_for : Purpose → OpenCall → Answer → Option JoinAnswer → HostState → HostState
due_for (Joining j step) c a f g = joined_on j f g
due_for Renewal c a f g = at_member c.session (due_of Renewal c a) g
due_for Survey c a f g = at_member c.session (due_of Survey c a) g
due_for (Leaving j) c a f g = at_member c.session (due_of (Leaving j) c a) g
due_for (Lease work step) c a f g = at_member c.session (due_of (Lease work step) c a) g
due_for (RequestRead j) c a f g = at_member c.session (due_of (RequestRead j) c a) g
due_for (RequestWrite j owner) c a f g = at_member c.session (due_of (RequestWrite j owner) c a) g
due_for SeeRequest c a f g = at_member c.session (due_of SeeRequest c a) g
due_for (ValueWrite j) c a f g = at_member c.session (due_of (ValueWrite j) c a) g
due_for (ValueRead j) c a f g = at_member c.session (due_of (ValueRead j) c a) g

-- ---- what is known

-- A host that keeps k, once it has heard this, keeps g.
abbrev pub IsHeard : HostKept → ℕ → Answer → HostKept → Type 0
IsHeard k number a g = (read : List ℕ → Result Command ℕ) → state_of read g ≡ heard_answer number a (state_of read k)

-- After an answer to a lease's call.
abbrev pub LeaseHeard : HostKept → OpenCall → Work → LeaseStep → Answer → Type 0
LeaseHeard g c work step (Read bytes) = ReadKnown g (spot_in (layout_of g.config.sizes) c) c.session work step bytes
LeaseHeard g c work step Written = WorkKnown g (spot_in (layout_of g.config.sizes) c) c.session work step × IsInstance c.lver
LeaseHeard g c work step Failed = WorkKnown g (spot_in (layout_of g.config.sizes) c) c.session work step

-- Of the host that has heard it, by the purpose of the call.
abbrev pub HeardKnown : HostKept → HostKept → OpenCall → Answer → Purpose → Type 0
HeardKnown k g c a (Joining j step) = (m : MemberState) → member_with c.session k.members ≡ Some m → JoinKnown g (join_answer (state_in k) c step a m)
HeardKnown k g c a Renewal = ArePlaced g
HeardKnown k g c a Survey = SurveyKnown g
HeardKnown k g c a (Leaving j) = ArePlaced g
HeardKnown k g c a (Lease work step) = LeaseHeard g c work step a
HeardKnown k g c a (RequestRead j) = RequestKnown g j
HeardKnown k g c a p = Unit {0}

-- Whether it is a joining's.
abbrev pub is_joining_purpose : Purpose → Bool
is_joining_purpose (Joining j step) = true
is_joining_purpose p = false

-- Of the host that is to hear it: who made the call isn't refused, unless it joins by it.
pub record MayAnswer (k : HostKept) (c : OpenCall) (a : Answer) : Type 0 where
  pub hears : MayHear k c
  pub timely : (k.reading < moments) × (c.reading < moments)
  pub stays : (m : MemberState) → member_with c.session k.members ≡ Some m → is_joining_purpose c.purpose ≡ false → m.refused ≡ false
  pub heard : (g : HostKept) → IsHeard k c.number a g → HeardKnown k g c a c.purpose

-- ---- how an answer comes

-- As the definitions have it.
abbrev pub answer_of : {S : Type 0} → (S → List ℕ) → Heard S → Answer
answer_of bytes (Sector image) = Read (arc_value image)
answer_of bytes (Sectors sectors) = Read (bytes sectors.now)
answer_of bytes WrittenSo = Written
answer_of bytes FailedSo = Failed

-- Whether a call for this purpose is answered by sectors: by those of all ids, or by others. A joining's read is answered by its sector.
abbrev pub takes_sectors : Purpose → Bool
takes_sectors Survey = true
takes_sectors (Lease work step) = true
takes_sectors (RequestRead j) = true
takes_sectors SeeRequest = true
takes_sectors (ValueRead j) = true
takes_sectors p = false

-- So many bytes are those that the call asks.
pub record FitsSectors (z : Sizes) (c : OpenCall) (n : ℕ) : Type 0 where
  pub taken : takes_sectors c.purpose ≡ true
  pub survey : c.purpose ≡ Survey → n ≡ z.hosts * z.sector
  pub lease : (work : Work) (step : LeaseStep) → c.purpose ≡ Lease work step → (is_read_step step ≡ true) × (is_some c.sectors ≡ true) × (n ≡ sectors_read z step * z.sector)
  pub request : (j : ℕ) → c.purpose ≡ RequestRead j → n ≡ 2 * z.sector
  pub look : c.purpose ≡ SeeRequest → n ≡ z.sector
  pub value : (j : ℕ) → c.purpose ≡ ValueRead j → n ≡ z.sector

-- Whether a call for this purpose may be a write.
abbrev pub is_writing : Purpose → Bool
is_writing (Joining j step) = true
is_writing Renewal = true
is_writing (Leaving j) = true
is_writing (Lease work step) = true
is_writing (RequestWrite j owner) = true
is_writing (ValueWrite j) = true
is_writing p = false

abbrev pub FitsHeard : {S : Type 0} → (S → List ℕ) → (S → ℕ → Bool) → Sizes → OpenCall → Heard S → Type 0
FitsHeard bytes is_cut z c (Sector image) = is_joining_purpose c.purpose ≡ true
FitsHeard bytes is_cut z c (Sectors sectors) = IsTrue (is_cut sectors.now z.sector) × FitsSectors z c (length (bytes sectors.now))
FitsHeard bytes is_cut z c WrittenSo = is_writing c.purpose ≡ true
FitsHeard bytes is_cut z c FailedSo = Unit {0}

-- Whether it is one on a request or a value, for this job.
abbrev pub is_job_call : ℕ → Purpose → Bool
is_job_call job (RequestRead j) = j == job
is_job_call job (RequestWrite j owner) = j == job
is_job_call job (ValueWrite j) = j == job
is_job_call job (ValueRead j) = j == job
is_job_call job p = false

-- ---- how much it takes

-- Effects, calls, and places for areas: of a call that reads all ids by what is held, else some.
abbrev pub effects_for : HostKept → Purpose → ℕ
effects_for k p = cond (is_survey_purpose p) (length k.holdings + length k.jobs + 3) 3

abbrev pub calls_for : HostKept → ℕ → Purpose → ℕ
calls_for k n p = cond (is_survey_purpose p) (leases_of n k + 1) 1

abbrev pub places_for : HostKept → ℕ → Purpose → ℕ
places_for k n p = cond (is_survey_purpose p) (leases_of n k) 0

-- An answer that comes so to a call may come, and there is memory for what it makes due: for so many effects and calls, numbers of jobs and areas.
pub record CanAnswer (k : HostKept) (c : OpenCall) (a : Answer) (left calls numbers spots : ℕ) : Type 0 where
  pub may : MayAnswer k c a
  pub left_is : effects_for k c.purpose ≤ left
  pub calls_are : calls_for k c.session c.purpose ≤ calls
  pub room : length k.jobs ≤ numbers
  pub places : places_for k c.session c.purpose ≤ spots

-- How much the answer to the call of a number takes.
abbrev pub effects_of : HostKept → ℕ → ℕ
effects_of k number = elim (find (λ c. c.number == number) k.unanswered) [ None ↦ 0 | Some c ↦ effects_for k c.purpose ]

abbrev pub calls_of : HostKept → ℕ → ℕ
calls_of k number = elim (find (λ c. c.number == number) k.unanswered) [ None ↦ 0 | Some c ↦ calls_for k c.session c.purpose ]
