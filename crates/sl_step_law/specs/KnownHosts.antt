-- What is known of a host as a whole: its clock, its jobs, what a command was; and what the decision on a line rests on.
use Rattle.sl_area.specs.AreaLayout.{is_base}
use Rattle.sl_due.specs.Steps.{Step}
use Rattle.sl_due.specs.declared.decision.Decision.TheVariants.{ConvertsTo, GetsValue, GivesUp, Joins, Leaves, SetsValue}
use Rattle.sl_due.specs.declared.decision.Decision.{Decision}
use Rattle.sl_host_law.specs.Decisions.CommandDecisions.{decision_of, held_of}
use Rattle.sl_host_law.specs.Questions.Jobs.{command_in}
use Rattle.sl_host_law.specs.Questions.Members.{exclusive_at}
use Rattle.sl_host_law.specs.Steps.Leases.{kept_blocks, lease_at}
use Rattle.sl_host_state.specs.KeptState.{HostState, MemberState}
use Rattle.sl_host_state.specs.HostStands.{HostStands}
use Rattle.sl_lease.specs.LeaseQuestions.{TopStands}
use Rattle.sl_lease.specs.Bounds.{IsInstance}
use Rattle.sl_lease.specs.Side.{is_named}
use Rattle.sl_trace.specs.Leases.{spot_of}
use Rattle.sl_member.specs.HostMembers.{AreApart}
use Rattle.sl_sector.specs.Records.{Fits}
use Rattle.sl_trace.specs.declared.session.Begun.{Begun}
use Rattle.sl_step_law.specs.Moments.{IsMoment}
use Rattle.sl_step_law.specs.ReadyHosts.{IsReady}
use Rattle.sl_trace.specs.CommandForms.{IsCommand}
use Rattle.sl_trace.specs.Traces.{Setting, Trace, spot_of_grant}
use Rattle.sl_trace.specs.declared.command.Command.TheVariants.{AddLockspace, RemLockspace}
use Rattle.sl_trace.specs.declared.command.Command.{Command}
use Rattle.sl_trace.specs.declared.command.LockspaceArg.{LockspaceArg}
use Rattle.sl_trace.specs.declared.effects.Grant.{Grant}
use Rattle.sl_trace.specs.declared.effects.Spot.{Spot}
use Rattle.sl_trace.specs.declared.input.Input.{Input}
use Rattle.sl_words.specs.Bounds.{moments}
use Rattle.std.specs.Prelude.{Contains, IfSome, IsTrue, List, Ok, Some, false, is_some, map, true, ℕ, ◌+◌, ◌<◌, ◌==◌, ◌≡◌}

pub record HostsAreKnown : Type 0 where
  pub timely : (i : Input) (h : HostState) (x : Step) → IsMoment i h x → h.reading < moments
  -- what was read is a command, of a line and of a job
  pub reads : (h : HostState) (x : Step) (text : List ℕ) (c : Command) → IsReady h x → h.config.read text ≡ Ok c → IsCommand h.config.layout c
  pub commands : (i : Input) (h : HostState) (x : Step) (j : ℕ) (c : Command) → IsMoment i h x → command_in h j ≡ Some c → IsCommand h.config.layout c
  -- as long as a leaving's free isn't written, it can be
  pub left : (i : Input) (h : HostState) (x : Step) (m : MemberState) (j : ℕ) → IsMoment i h x → Contains h.members m → m.joined ≡ true → m.known.leaving ≡ Some j → m.known.freed ≡ false
      → Fits (m.known.seq + 1)
  -- no two jobs have one number
  pub apart : (i : Input) (h : HostState) (x : Step) → IsMoment i h x → AreApart (map (λ j. j.number) h.jobs)
  -- between two steps each recovery has begun in a step before
  pub began : (h : HostState) (st : Setting) (es : Trace) (m : MemberState) (b : Begun) → HostStands h st es → Contains h.members m → m.renewing.recovery ≡ Some b → b.at < h.entries

-- ---- what a line comes to

-- A member's lease on an area may be asked.
pub record LeaseReady (h : HostState) (m : MemberState) (at : Spot) : Type 0 where
  pub joined : m.joined ≡ true
  pub area : IsTrue (is_base h.config.layout at.base)
  pub tops : TopStands (lease_at m at) (kept_blocks (lease_at m at))
  -- whoever has written a block has verified the resource's name, and an open ballot is of such a block
  pub owned : is_some (lease_at m at).own ≡ true → IsTrue (is_named (lease_at m at))
  pub opened : is_some (lease_at m at).ballot ≡ true → is_some (lease_at m at).own ≡ true
  pub held : IfSome (exclusive_at h m at) (λ g. IsInstance g.lver)

-- It gives up what it holds.
pub record GivingIs (h : HostState) (m : MemberState) (g : Grant) : Type 0 where
  pub lease : LeaseReady h m (spot_of_grant g)
  pub holds : Contains (held_of h m) g
  pub named : IsTrue (is_named (lease_at m (spot_of_grant g)))
  pub instance : IsInstance g.lver

-- By what the command came to; of a session by its member.
abbrev pub DecisionIs : HostState → Command → Decision → Type 0
DecisionIs h c (Joins n a) = c ≡ AddLockspace a
DecisionIs h c (Leaves s) = (a : LockspaceArg) × (c ≡ RemLockspace a)
DecisionIs h c (GivesUp s g) = (m : MemberState) → Contains h.members m → (m.who.number == s.number) ≡ true → GivingIs h m g
DecisionIs h c (ConvertsTo s r mode) = (m : MemberState) → Contains h.members m → (m.who.number == s.number) ≡ true → LeaseReady h m (spot_of r)
DecisionIs h c (SetsValue s at v) = IsTrue (is_base h.config.layout at.base)
DecisionIs h c (GetsValue s at) = IsTrue (is_base h.config.layout at.base)
DecisionIs h c d = Unit {0}

abbrev pub DecisionsAreKnown : Type 0
DecisionsAreKnown =
    (h : HostState) (x : Step) (text : List ℕ) (c : Command) (d : Decision) → IsReady h x → h.config.read text ≡ Ok c → d ≡ decision_of h c → DecisionIs h c d
