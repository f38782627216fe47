-- The whole of an answer to a lease's call, with no premise on calls or replies but where the areas of the layout lie. Of a conversion
-- that is done the premises are as they were.
use Rattle.sl_host_law.specs.Answers.AnswersFollow.{IsAnswerTo}
use Rattle.sl_host_law.specs.Answers.LeaseAnswers.{area_of}
use Rattle.sl_host_law.specs.Answers.LeaseDecisions.{MayCarryLease, carrying_lease, read_from}
use Rattle.sl_host_law.specs.Answers.Requests.{Follows}
use Rattle.sl_area.specs.AreaLayout.{block_place, leader_offset}
use Rattle.sl_due.specs.Steps.{Step, with_input}
use Rattle.sl_host_state.specs.HeardInputs.{heard_answer, member_hearing}
use Rattle.sl_host_state.specs.KeptState.{HostState, MemberState}
use Rattle.sl_host_state.specs.declared.kept_parts.OpenCall.{OpenCall}
use Rattle.sl_trace.specs.declared.lease.Aim.{Aim}
use Rattle.sl_trace.specs.declared.lease.LeaseNext.TheVariants.{BecomeExclusive, BecomeShared}
use Rattle.sl_trace.specs.declared.lease.LeaseNext.{LeaseNext}
use Rattle.sl_host_law.specs.StepParts.Wakes.{is_free_at}
use Rattle.sl_host_law.specs.Questions.Answers.{next_in, settling_in}
use Rattle.sl_host_law.specs.Questions.Jobs.{aim_in, goes_on_in}
use Rattle.sl_host_law.specs.Questions.Members.{IsMemberAt}
use Rattle.sl_trace.specs.declared.effects.LeaseStep.{LeaseStep}
use Rattle.sl_trace.specs.declared.effects.Purpose.TheVariants.{Lease}
use Rattle.sl_trace.specs.declared.effects.Spot.{Spot}
use Rattle.sl_trace.specs.declared.effects.Work.TheVariants.{Settling}
use Rattle.sl_trace.specs.declared.effects.Work.{Work}
use Rattle.sl_trace.specs.declared.input.Answer.{Answer}
use Rattle.sl_trace.specs.declared.input.Input.TheVariants.{Answer as Told}
use Rattle.sl_trace.specs.declared.input.Input.{Input}
use Rattle.std.specs.Prelude.{Some, false, true, ℕ, ◌%◌, ◌-◌, ◌<◌, ◌≡◌}

-- Leader and blocks of an area are on it.
pub record IsPlacedAt (h : HostState) (m : MemberState) (at : Spot) : Type 0 where
  pub room : 0 < h.config.layout.area
  pub reads : (step : LeaseStep) → read_from h at step - read_from h at step % h.config.layout.area ≡ at.base
  pub block : (turn : ℕ) → block_place h.config.layout at.base m.who.id turn - block_place h.config.layout at.base m.who.id turn % h.config.layout.area ≡ at.base
  pub leader : leader_offset at.base - leader_offset at.base % h.config.layout.area ≡ at.base

-- So are those of the call's.
abbrev pub IsPlaced : HostState → MemberState → OpenCall → Type 0
IsPlaced h m c = IsPlacedAt h m (area_of h c)

-- A conversion that is done is asked the same as before.
abbrev pub IfConverted : Input → HostState → Step → MemberState → OpenCall → Work → LeaseNext → Type 0
IfConverted i h x m c work (BecomeShared lver l) = MayCarryLease i h x m (area_of h c) work (BecomeShared lver l)
IfConverted i h x m c work (BecomeExclusive lver b) = MayCarryLease i h x m (area_of h c) work (BecomeExclusive lver b)
IfConverted i h x m c work next = Unit {0}

abbrev pub LeasesGoOn : Type 0
LeasesGoOn =
    (number : ℕ) (c : OpenCall) (a : Answer) (h : HostState) (x : Step) (k : ℕ) (m : MemberState) (work : Work) (step : LeaseStep) (aim : Aim) (next : LeaseNext) → IsAnswerTo number c a h x k m → m.refused ≡ false
    → c.purpose ≡ Lease work step → goes_on_in (heard_answer number a h) (member_hearing h c a m) work ≡ true → aim_in (heard_answer number a h) work ≡ Some aim
    → next ≡ next_in (heard_answer number a h) (member_hearing h c a m) (with_input (Told number a) x) (area_of (heard_answer number a h) c) c aim step a
    → IsPlaced (heard_answer number a h) (member_hearing h c a m) c
    → IfConverted (Told number a) (heard_answer number a h) (with_input (Told number a) x) (member_hearing h c a m) c work next
    → Follows number a h x (carrying_lease (member_hearing h c a m) (area_of (heard_answer number a h) c) work next (heard_answer number a h))

-- A settling on a free area may do what is owed.
abbrev pub SettlingsMay : Type 0
SettlingsMay =
    (i : Input) (h : HostState) (x : Step) (k : ℕ) (m : MemberState) (at : Spot) (next : LeaseNext) → IsMemberAt i h x k m → next ≡ settling_in h m x at → IsPlacedAt h m at
    → is_free_at h at ≡ true → MayCarryLease i h x m at Settling next
