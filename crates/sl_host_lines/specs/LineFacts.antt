-- What is asked of a host by a line: facts of what it keeps as it has come to its input, before the line is heard.
use Rattle.sl_area.specs.AreaSizes.{layout_of}
use Rattle.sl_due.specs.declared.decision.Decision.TheVariants.{ConvertsTo, GetsValue, GivesUp, Joins, Leaves, ReadsArea, Replies, Requests, SetsValue, Shares, TakesOver}
use Rattle.sl_due.specs.declared.decision.Decision.{Decision}
use Rattle.sl_host_law.specs.Decisions.CommandDecisions.{decision_of}
use Rattle.sl_host_law.specs.Questions.Members.{exclusive_at}
use Rattle.sl_host_law.specs.Steps.Leases.{kept_blocks, lease_at}
use Rattle.sl_host_state.specs.KeptState.{HostKept, MemberState, state_of}
use Rattle.sl_host_work.specs.LeaseQuestions.{IsOwned}
use Rattle.sl_host_work.specs.SectorPlaces.{IsArea, IsPlaced}
use Rattle.sl_lease.specs.LeaseQuestions.{TopStands}
use Rattle.sl_lease.specs.Bounds.{IsInstance}
use Rattle.sl_lease.specs.Side.{is_named}
use Rattle.sl_trace.specs.Leases.{spot_of}
use Rattle.sl_member.specs.HostMembers.{member_with}
use Rattle.sl_trace.specs.CommandForms.{IsCommand}
use Rattle.sl_trace.specs.Traces.{spot_of_grant}
use Rattle.sl_trace.specs.declared.command.Command.TheVariants.{AddLockspace, RemLockspace}
use Rattle.sl_trace.specs.declared.command.Command.{Command}
use Rattle.sl_trace.specs.declared.command.LockspaceArg.{LockspaceArg}
use Rattle.sl_trace.specs.declared.effects.Grant.{Grant}
use Rattle.sl_trace.specs.declared.effects.Spot.{Spot}
use Rattle.sl_host.specs.BookQuestions.{state_in}
use Rattle.sl_host.specs.Host.{ReadAs}
use Rattle.sl_words.specs.Bounds.{moments}
use Rattle.std.specs.Prelude.{IfSome, IsTrue, List, None, Some, true, ℕ, ◌+◌, ◌<◌, ◌^◌, ◌≡◌}

-- Its reading is one of a clock's, and the kills of a leaving that begins come at a reading too.
pub record IsTimely (k : HostKept) : Type 0 where
  pub now : k.reading < moments
  pub kills : k.reading + k.config.grace < 2 ^ 64

-- The lease of a joined member on an area may work: session and area are placed, what is kept of the blocks that were read
-- last is so, and the own block is of a resource whose name was verified.
pub record LeaseReady (k : HostKept) (at : Spot) (m : MemberState) : Type 0 where
  pub joined : m.joined ≡ true
  pub placed : IsPlaced k.config.sizes m.who
  pub area : IsArea k.config.sizes at.base
  pub tops : TopStands (lease_at m at) (kept_blocks (lease_at m at))
  pub owned : IsOwned (lease_at m at)

-- It may be released by the end of this holding: the resource's name was verified, and the holding is of an instance.
pub record MayRelease (k : HostKept) (g : Grant) (m : MemberState) : Type 0 where
  pub lease : LeaseReady k (spot_of_grant g) m
  pub named : IsTrue (is_named (lease_at m (spot_of_grant g)))
  pub instance : IsInstance g.lver

-- A holding under it may be converted: an exclusive one is of an instance.
pub record MayConvert (k : HostKept) (at : Spot) (m : MemberState) : Type 0 where
  pub lease : LeaseReady k at m
  pub held : IfSome (exclusive_at (state_in k) m at) (λ g. IsInstance g.lver)

-- So of the member of this number.
abbrev pub MayReleaseAt : HostKept → ℕ → Grant → Type 0
MayReleaseAt k n g = (m : MemberState) → member_with n k.members ≡ Some m → MayRelease k g m

abbrev pub MayConvertAt : HostKept → ℕ → Spot → Type 0
MayConvertAt k n at = (m : MemberState) → member_with n k.members ≡ Some m → MayConvert k at m

-- What is asked for what the command came to.
abbrev pub DecisionKnown : HostKept → Command → Decision → Type 0
DecisionKnown k c (Replies r) = Unit {0}
DecisionKnown k c (Joins n a) = (c ≡ AddLockspace a) × (member_with k.born k.members ≡ None)
DecisionKnown k c (Leaves s) = (a : LockspaceArg) × (c ≡ RemLockspace a)
DecisionKnown k c (ReadsArea s r) = Unit {0}
DecisionKnown k c (Shares s lver) = Unit {0}
DecisionKnown k c (GivesUp s g) = MayReleaseAt k s.number g
DecisionKnown k c (TakesOver s g) = Unit {0}
DecisionKnown k c (ConvertsTo s r mode) = MayConvertAt k s.number (spot_of r)
DecisionKnown k c (Requests s r) = Unit {0}
DecisionKnown k c (SetsValue s at v) = IsArea k.config.sizes at.base
DecisionKnown k c (GetsValue s at) = IsArea k.config.sizes at.base

-- What is asked of a host, and of a command that is read: it is one of the grammar, and what it came to may be done.
pub record LineKnown (k : HostKept) (c : Command) : Type 0 where
  pub timely : IsTimely k
  pub command : IsCommand (layout_of k.config.sizes) c
  pub decided : (d : Decision) → ((read : List ℕ → ReadAs) → d ≡ decision_of (state_of read k) c) → DecisionKnown k c d
