-- What an answer to a lease's call finds: the member as it has heard it, and the call that was open.
use Rattle.sl_due.specs.Steps.{Step}
use Rattle.sl_host_law.specs.Questions.Answers.{spot_in}
use Rattle.sl_host_law.specs.Questions.Members.{exclusive_at}
use Rattle.sl_host_law.specs.Replies.Answers.{FitsCall, IsOpen}
use Rattle.sl_host_law.specs.Steps.Leases.{kept_blocks, lease_at}
use Rattle.sl_host_state.specs.HeardInputs.{heard_answer, member_hearing}
use Rattle.sl_host_state.specs.KeptState.{HostState, MemberState}
use Rattle.sl_host_state.specs.declared.kept_parts.JobState.{JobState}
use Rattle.sl_host_state.specs.declared.kept_parts.OpenCall.{OpenCall}
use Rattle.sl_host_state.specs.HostStands.{first_read, is_kept_of}
use Rattle.sl_lease.specs.LeaseQuestions.{TopStands, leader_given, read_given}
use Rattle.sl_lease.specs.Bounds.{IsInstance}
use Rattle.sl_lease.specs.Side.{is_named}
use Rattle.sl_lease.specs.Steps.{is_first_step, is_read_step}
use Rattle.sl_area.specs.AreaLayout.{is_base}
use Rattle.sl_sector.specs.declared.sector.Leader.{Leader}
use Rattle.sl_step_law.specs.AnswersAwaited.{IsMembersCall}
use Rattle.sl_step_law.specs.ReadyHosts.{IsReady}
use Rattle.sl_trace.specs.LeaseDecisions.{asked_again, first_step}
use Rattle.sl_trace.specs.Leases.{is_leader_of, is_second}
use Rattle.sl_trace.specs.Traces.{is_expected}
use Rattle.sl_trace.specs.declared.effects.LeaseStep.TheVariants.{ReadArea}
use Rattle.sl_trace.specs.declared.effects.LeaseStep.{LeaseStep}
use Rattle.sl_trace.specs.declared.effects.Purpose.TheVariants.{Lease}
use Rattle.sl_trace.specs.declared.effects.Work.{Work}
use Rattle.sl_trace.specs.declared.input.Answer.TheVariants.{Read}
use Rattle.sl_trace.specs.declared.input.Answer.{Answer}
use Rattle.sl_trace.specs.declared.input.Input.TheVariants.{Answer as Told}
use Rattle.sl_words.specs.Bounds.{moments}
use Rattle.sl_words.specs.Words.{some_is}
use Rattle.std.specs.Prelude.{Contains, IfSome, IsTrue, List, None, Some, is_some, true, ℕ, ◌<◌, ◌==◌, ◌≡◌, ◌||◌}

-- An answer that may come, to an open call of the member.
pub record AnswerArrives (h : HostState) (x : Step) (number : ℕ) (c : OpenCall) (m : MemberState) (a : Answer) : Type 0 where
  pub ready : IsReady h x
  pub expected : is_expected x.setting x.past (Told number a) ≡ true
  pub call : IsMembersCall h number c m
  pub fits : FitsCall h.config.layout a c

-- Of a call of a lease; q is the member as it has heard the answer, g the host.
pub record LeaseHeard (g : HostState) (q : MemberState) (c : OpenCall) (step : LeaseStep) (a : Answer) : Type 0 where
  pub there : Contains g.members q
  pub joined : q.joined ≡ true
  -- the area stands at a base
  pub area : IsTrue (is_base g.config.layout (spot_in g.config.layout c).base)
  -- the resource's name was verified, but for the read that begins an acquire
  pub named : IsTrue (is_first_step step || is_named (lease_at q (spot_in g.config.layout c)))
  -- so it is where a block was written
  pub owned : is_some (lease_at q (spot_in g.config.layout c)).own ≡ true → IsTrue (is_named (lease_at q (spot_in g.config.layout c)))
  -- an open ballot is of such a block
  pub opened : is_some (lease_at q (spot_in g.config.layout c)).ballot ≡ true → is_some (lease_at q (spot_in g.config.layout c)).own ≡ true
  -- a second read is looked at with what is kept of the first one
  pub again : is_second step ≡ (lease_at q (spot_in g.config.layout c)).pair.again
  pub kept : (lease_at q (spot_in g.config.layout c)).pair.again ≡ true → IsTrue (is_some (lease_at q (spot_in g.config.layout c)).pair.first)
  -- what is kept of the blocks read last is so: of those that the answer gives, if it gives any
  pub tops : TopStands (lease_at q (spot_in g.config.layout c)) (kept_blocks (lease_at q (spot_in g.config.layout c)))
  pub shown : (bytes : List ℕ) → a ≡ Read bytes → is_read_step step ≡ true → asked_again g.config.layout bytes step ≡ None
      → TopStands (lease_at q (spot_in g.config.layout c)) (read_given g.config.layout (first_read (lease_at q (spot_in g.config.layout c)).pair) step bytes)
  -- a leader of the resource that was sought verifies its name
  pub verified : (bytes name : List ℕ) (l : Leader) → a ≡ Read bytes → first_step step ≡ ReadArea name → asked_again g.config.layout bytes step ≡ None
      → leader_given g.config.layout (first_read (lease_at q (spot_in g.config.layout c)).pair) step bytes ≡ Some l → is_leader_of g.config.layout q.who.lockspace name l ≡ true
      → IsTrue (is_named (lease_at q (spot_in g.config.layout c)))
  pub held : IfSome (exclusive_at g q (spot_in g.config.layout c)) (λ g. IsInstance g.lver)

pub record LeaseAnswersAreKnown : Type 0 where
  -- a member of the host that has heard it, by the number of the call's session, is the one that made the call
  pub origin : (h : HostState) (number : ℕ) (c : OpenCall) (q : MemberState) (a : Answer) → IsOpen h number c → Contains (heard_answer number a h).members q → (q.who.number == c.session) ≡ true
      → (m : MemberState) × IsMembersCall h number c m × (member_hearing h c a m ≡ q)
  pub heard : (h : HostState) (x : Step) (number : ℕ) (c : OpenCall) (m : MemberState) (a : Answer) (work : Work) (step : LeaseStep) → AnswerArrives h x number c m a → c.purpose ≡ Lease work step
      → LeaseHeard (heard_answer number a h) (member_hearing h c a m) c step a
  pub by_number : (h : HostState) (x : Step) (number : ℕ) (c : OpenCall) (q : MemberState) (a : Answer) (work : Work) (step : LeaseStep) → IsReady h x → is_expected x.setting x.past (Told number a) ≡ true
      → IsOpen h number c → FitsCall h.config.layout a c → Contains (heard_answer number a h).members q → (q.who.number == c.session) ≡ true → c.purpose ≡ Lease work step
      → LeaseHeard (heard_answer number a h) q c step a
  -- a write is of an instance, also of a session that is gone
  pub instances : (h : HostState) (x : Step) (number : ℕ) (c : OpenCall) (work : Work) (step : LeaseStep) → IsReady h x → IsOpen h number c → c.purpose ≡ Lease work step → c.sectors ≡ None → IsInstance c.lver
  -- a read is at a step that reads, a write at one that writes
  pub steps : (h : HostState) (x : Step) (number : ℕ) (c : OpenCall) (work : Work) (step : LeaseStep) → IsReady h x → IsOpen h number c → c.purpose ≡ Lease work step → is_some c.sectors ≡ is_read_step step
  -- it was submitted at a reading of the clock
  pub times : (h : HostState) (x : Step) (number : ℕ) (c : OpenCall) → IsReady h x → IsOpen h number c → c.reading < moments
  -- of the jobs the one waits for an open call whose own it is
  pub waits : (h : HostState) (x : Step) (number : ℕ) (c : OpenCall) (j : JobState) → IsReady h x → IsOpen h number c → Contains h.jobs j
      → some_is (λ w. w.number == c.number) j.waits ≡ is_kept_of j.number c
