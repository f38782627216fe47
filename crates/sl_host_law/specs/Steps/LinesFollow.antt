-- A line of a step.
use Rattle.sl_host_law.specs.Answers.Grants.{ended, given_up}
use Rattle.sl_host_law.specs.Answers.LeaseDecisions.{MayCarryLease}
use Rattle.sl_area.specs.AreaLayout.{area_sectors, value_offset}
use Rattle.sl_host_law.specs.Calls.MemberCalls.{fits_lease, fits_value}
use Rattle.sl_host_law.specs.Decisions.CommandDecisions.{decision_of}
use Rattle.sl_host_law.specs.Decisions.DecisionLaws.{LastIsEnough}
use Rattle.sl_due.specs.DueInputs.{take_input}
use Rattle.sl_due.specs.Steps.{Step, with_input}
use Rattle.sl_due.specs.declared.decision.Decision.TheVariants.{ConvertsTo, GetsValue, GivesUp, Joins, Leaves, ReadsArea, Replies, Requests, SetsValue, Shares, TakesOver}
use Rattle.sl_due.specs.declared.decision.Decision.{Decision}
use Rattle.sl_host_state.specs.HeardInputs.{heard_line}
use Rattle.sl_host_state.specs.KeptState.{HostState, LeaseState, MemberState}
use Rattle.sl_host_state.specs.MadeEffects.{is_lease_on, next_submitted}
use Rattle.sl_host_state.specs.HostStands.{Stands}
use Rattle.sl_host_law.specs.Steps.Inputs.{taking}
use Rattle.sl_host_law.specs.Steps.Leases.{converting_next, releasing_next}
use Rattle.sl_host_law.specs.Steps.SoundHosts.{IsEarly, IsSound}
use Rattle.sl_trace.specs.Leases.{spot_of}
use Rattle.sl_host_law.specs.StepParts.Lines.{HeardBy}
use Rattle.sl_sector.specs.declared.sector.Rec.TheVariants.{ValueIs}
use Rattle.sl_trace.specs.Traces.{spot_of_grant}
use Rattle.sl_trace.specs.declared.command.Command.{Command}
use Rattle.sl_trace.specs.declared.effects.LeaseStep.TheVariants.{ReadArea}
use Rattle.sl_trace.specs.declared.effects.Op.TheVariants.{ReadSectors, WriteRecord}
use Rattle.sl_trace.specs.declared.effects.Purpose.TheVariants.{Lease, ValueWrite}
use Rattle.sl_trace.specs.declared.effects.Spot.{Spot}
use Rattle.sl_trace.specs.declared.effects.Work.TheVariants.{ForJob}
use Rattle.sl_trace.specs.declared.input.Input.TheVariants.{Line, Wake}
use Rattle.std.specs.Prelude.{IsTrue, List, Ok, Some, find, ℕ, ◌≡◌}

-- The member has a lease on the area.
abbrev pub IsLeased : MemberState → Spot → Type 0
IsLeased m at = (l : LeaseState) × (find (is_lease_on at) m.leases ≡ Some l)

-- What is asked of the calls, grants and replies of a decision, by the host before its line.
abbrev pub MayDecide : HostState → Step → List ℕ → Command → Decision → Type 0
MayDecide h x text c (Replies r) = Unit {0}
MayDecide h x text c (Joins n a) = Unit {0}
MayDecide h x text c (Leaves s) = Unit {0}
MayDecide h x text c (ReadsArea s r) =
    (k : ℕ) (m : MemberState) → HeardBy h c k m s
    → IsTrue (fits_lease h.config.layout m (next_submitted h m.who.number r.path (Lease (ForJob h.next_job) (ReadArea r.name)) r.offset (ReadSectors (area_sectors h.config.layout))))
MayDecide h x text c (Shares s lver) = Unit {0}
MayDecide h x text c (GivesUp s g) =
    (k : ℕ) (m : MemberState) → HeardBy h c k m s → IsLeased m (spot_of_grant g)
    × MayCarryLease (Line text) (given_up h c g) (ended text g x) m (spot_of_grant g) (ForJob h.next_job) (releasing_next (given_up h c g) m (spot_of_grant g) g)
MayDecide h x text c (TakesOver s g) = Unit {0}
MayDecide h x text c (ConvertsTo s r mode) =
    (k : ℕ) (m : MemberState) → HeardBy h c k m s → IsLeased m (spot_of r)
    × MayCarryLease (Line text) (heard_line c h) (with_input (Line text) x) m (spot_of r) (ForJob h.next_job) (converting_next (heard_line c h) m (spot_of r) mode r.name)
MayDecide h x text c (Requests s r) = Unit {0}
MayDecide h x text c (SetsValue s at v) =
    (k : ℕ) (m : MemberState) → HeardBy h c k m s
    → IsTrue (fits_value h.config.layout m (next_submitted h m.who.number at.path (ValueWrite h.next_job) (value_offset h.config.layout at.base) (WriteRecord (ValueIs v))))
MayDecide h x text c (GetsValue s at) = Unit {0}

-- What is asked of a line that says this: of its values the last is enough.
pub record LineMay (h : HostState) (x : Step) (text : List ℕ) (c : Command) : Type 0 where
  pub last : LastIsEnough h x c
  pub decides : MayDecide h x text c (decision_of h c)

-- The state follows the step.
abbrev pub LinesFollow : Type 0
LinesFollow =
    (h : HostState) (x : Step) (text : List ℕ) → IsEarly h → IsSound h → ((c : Command) → h.config.read text ≡ Ok c → LineMay h x text c) → Stands Wake h x
    → Stands (Line text) (taking (Line text) h) (take_input (Line text) x)
