-- A command line as a whole: it is answered at once, or heard and carried out.
use Rattle.sl_area.specs.AreaLayout.{area_sectors, delta_offset, value_offset}
use Rattle.sl_host_law.specs.Calls.MemberCalls.{fits_lease, fits_value}
use Rattle.sl_host_law.specs.Decisions.CommandDecisions.{decision_of, open_at}
use Rattle.sl_host_law.specs.Decisions.DecisionLaws.{LastIsEnough}
use Rattle.sl_due.specs.DueCommands.{carry_decision, on_line, reply_at_once}
use Rattle.sl_due.specs.Steps.{Step, with_input}
use Rattle.sl_due.specs.declared.decision.Decision.TheVariants.{GetsValue, Joins, Leaves, ReadsArea, Replies, Requests, SetsValue}
use Rattle.sl_due.specs.declared.decision.Decision.{Decision}
use Rattle.sl_host_law.specs.SharedFacts.AtInput.{IsAtInput}
use Rattle.sl_host_state.specs.HeardInputs.{answered_line, heard_line}
use Rattle.sl_host_state.specs.KeptState.{HostState, LeaseState, MemberState}
use Rattle.sl_host_state.specs.MadeEffects.{is_lease_on, next_submitted, with_call, with_joining}
use Rattle.sl_host_state.specs.NewHost.{IsOfProgram}
use Rattle.sl_host_state.specs.HostStands.{Stands}
use Rattle.sl_host_law.specs.StepParts.Refusals.{signalling_and_refusing}
use Rattle.sl_host_law.specs.Questions.Members.{IsMemberAt}
use Rattle.sl_sector.specs.declared.sector.Rec.TheVariants.{ValueIs}
use Rattle.sl_sector.specs.declared.sector.ValueRec.{ValueRec}
use Rattle.sl_trace.specs.declared.session.Session.{Session}
use Rattle.sl_trace.specs.declared.command.Command.{Command}
use Rattle.sl_trace.specs.declared.command.LockspaceArg.{LockspaceArg}
use Rattle.sl_trace.specs.declared.command.ResourceArg.{ResourceArg}
use Rattle.sl_trace.specs.declared.effects.JoinStep.TheVariants.{FirstRead}
use Rattle.sl_trace.specs.declared.effects.LeaseStep.TheVariants.{ReadArea}
use Rattle.sl_trace.specs.declared.effects.Op.TheVariants.{ReadSectors, WriteRecord}
use Rattle.sl_trace.specs.declared.effects.Purpose.TheVariants.{Joining, Lease, RequestRead, ValueRead, ValueWrite}
use Rattle.sl_trace.specs.declared.effects.Spot.{Spot}
use Rattle.sl_trace.specs.declared.effects.Work.TheVariants.{ForJob}
use Rattle.sl_trace.specs.declared.input.Input.TheVariants.{Line, Wake}
use Rattle.sl_trace.specs.declared.input.Input.{Input}
use Rattle.sl_trace.specs.declared.reply.Reply.TheVariants.{BadCommand as Misread}
use Rattle.sl_trace.specs.declared.reply.Reply.{Reply}
use Rattle.std.specs.Prelude.{Err, IsTrue, List, None, Ok, Some, find, slice_get, [], ℕ, ◌≡◌}

-- A line that has come, in a step that has made no call: what it says, and what that comes to.
pub record LineComes (h : HostState) (x : Step) (text : List ℕ) (c : Command) (d : Decision) : Type 0 where
  pub stands : Stands Wake h x
  pub at : IsAtInput h
  pub says : h.config.read text ≡ Ok c
  pub last : LastIsEnough h x c
  pub decision : decision_of h c ≡ d

-- A member as the line has been heard.
pub record HeardBy (h : HostState) (c : Command) (k : ℕ) (m : MemberState) (s : Session) : Type 0 where
  pub there : slice_get (heard_line c h).members k ≡ Some m
  pub whose : m.who ≡ s

-- The state follows the step.
pub record LinesAreTaken : Type 0 where
  -- a text that says no command, and a command that is answered at once
  pub misread : (h : HostState) (x : Step) (text : List ℕ) (column : ℕ) → Stands Wake h x → h.made.calls ≡ [] → h.config.read text ≡ Err column
      → Stands (Line text) (answered_line (h.config.read text) (Misread column) h) (on_line text x)
  pub answered : (h : HostState) (x : Step) (text : List ℕ) (c : Command) (r : Reply) → LineComes h x text c (Replies r)
      → Stands (Line text) (answered_line (h.config.read text) r h) (on_line text x)
  -- any other is heard, and then carried out
  pub heard : (h : HostState) (x : Step) (text : List ℕ) (c : Command) (d : Decision) → LineComes h x text c d
      → Stands (Line text) (heard_line c h) (with_input (Line text) x)
  pub carried : (h : HostState) (x : Step) (text : List ℕ) (c : Command) (d : Decision) → LineComes h x text c d → reply_at_once d ≡ None
      → on_line text x ≡ carry_decision h.next_job c d (with_input (Line text) x)
  pub joins : (h : HostState) (x : Step) (text : List ℕ) (c : Command) (n : ℕ) (a : LockspaceArg) → LineComes h x text c (Joins n a) → IsOfProgram h.config.layout
      → Stands (Line text) (with_joining h.next_job a (Joining h.next_job FirstRead) (delta_offset h.config.layout a.offset a.id) (ReadSectors 1) (heard_line c h)) (on_line text x)
  pub leaves : (h : HostState) (x : Step) (text : List ℕ) (c : Command) (s : Session) (k : ℕ) (m : MemberState) → LineComes h x text c (Leaves s) → HeardBy h c k m s
      → Stands (Line text) (signalling_and_refusing m (Some h.next_job) (heard_line c h)) (on_line text x)
  pub requests : (h : HostState) (x : Step) (text : List ℕ) (c : Command) (s : Session) (r : ResourceArg) (k : ℕ) (m : MemberState) → LineComes h x text c (Requests s r) → HeardBy h c k m s
      → Stands (Line text) (with_call m.who.number r.path (RequestRead h.next_job) r.offset (ReadSectors 2) (heard_line c h)) (on_line text x)
  pub gets : (h : HostState) (x : Step) (text : List ℕ) (c : Command) (s : Session) (at : Spot) (k : ℕ) (m : MemberState) → LineComes h x text c (GetsValue s at) → HeardBy h c k m s
      → Stands (Line text) (with_call m.who.number at.path (ValueRead h.next_job) (value_offset h.config.layout at.base) (ReadSectors 1) (heard_line c h)) (on_line text x)
  -- a value is set on the area of a lease
  pub sets : (h : HostState) (x : Step) (text : List ℕ) (c : Command) (s : Session) (at : Spot) (v : ValueRec) (k : ℕ) (m : MemberState) → LineComes h x text c (SetsValue s at v) → HeardBy h c k m s
      → IsTrue (fits_value h.config.layout m (next_submitted h m.who.number at.path (ValueWrite h.next_job) (value_offset h.config.layout at.base) (WriteRecord (ValueIs v))))
      → Stands (Line text) (with_call m.who.number at.path (ValueWrite h.next_job) (value_offset h.config.layout at.base) (WriteRecord (ValueIs v)) (heard_line c h)) (on_line text x)
  -- and an area is read whose lease waits for nothing
  pub reads : (h : HostState) (x : Step) (text : List ℕ) (c : Command) (s : Session) (r : ResourceArg) (k : ℕ) (m : MemberState) → LineComes h x text c (ReadsArea s r) → HeardBy h c k m s
      → IsTrue (fits_lease h.config.layout m (next_submitted h m.who.number r.path (Lease (ForJob h.next_job) (ReadArea r.name)) r.offset (ReadSectors (area_sectors h.config.layout))))
      → Stands (Line text) (with_call m.who.number r.path (Lease (ForJob h.next_job) (ReadArea r.name)) r.offset (ReadSectors (area_sectors h.config.layout)) (heard_line c h)) (on_line text x)
  -- a lease on an area without an open call waits for nothing
  pub free : (i : Input) (h : HostState) (x : Step) (k : ℕ) (m : MemberState) (at : Spot) (l : LeaseState) → IsMemberAt i h x k m → open_at h at ≡ None
      → find (is_lease_on at) m.leases ≡ Some l → l.waiting ≡ None
