-- A line: what it says is decided before it is heard, then carried out.
use Rattle.sl_host_law.specs.Answers.Grants.{after_giving, given_up}
use Rattle.sl_host_law.specs.Answers.LeaseDecisions.{carrying_lease, granting_for}
use Rattle.sl_area.specs.AreaLayout.{area_sectors, delta_offset, value_offset}
use Rattle.sl_host_law.specs.Decisions.CommandDecisions.{decision_of}
use Rattle.sl_due.specs.declared.decision.Decision.TheVariants.{ConvertsTo, GetsValue, GivesUp, Joins, Leaves, ReadsArea, Replies, Requests, SetsValue, Shares, TakesOver}
use Rattle.sl_due.specs.declared.decision.Decision.{Decision}
use Rattle.sl_host_state.specs.HeardInputs.{answered_line, heard_line}
use Rattle.sl_host_state.specs.KeptState.{HostState}
use Rattle.sl_host_state.specs.MadeEffects.{with_call, with_joining}
use Rattle.sl_host_law.specs.Steps.Leases.{converting_next, releasing_next}
use Rattle.sl_host_law.specs.Steps.Passes.{at_member}
use Rattle.sl_trace.specs.Leases.{spot_of}
use Rattle.sl_host_law.specs.StepParts.Refusals.{signalling_and_refusing}
use Rattle.sl_sector.specs.declared.sector.Rec.TheVariants.{ValueIs}
use Rattle.sl_trace.specs.Traces.{spot_of_grant}
use Rattle.sl_trace.specs.declared.command.Command.{Command}
use Rattle.sl_trace.specs.declared.effects.JoinStep.TheVariants.{FirstRead}
use Rattle.sl_trace.specs.declared.effects.LeaseStep.TheVariants.{ReadArea}
use Rattle.sl_trace.specs.declared.effects.Mode.TheVariants.{Shared}
use Rattle.sl_trace.specs.declared.effects.Op.TheVariants.{ReadSectors, WriteRecord}
use Rattle.sl_trace.specs.declared.effects.Purpose.TheVariants.{Joining, Lease, RequestRead, ValueRead, ValueWrite}
use Rattle.sl_trace.specs.declared.effects.Work.TheVariants.{ForJob}
use Rattle.sl_trace.specs.declared.reply.Reply.TheVariants.{BadCommand as Misread}
use Rattle.std.specs.Prelude.{Err, Ok, Result, Some, ℕ}

-- What the command of the job j came to is done, by the host before its line.
abbrev pub deciding : Command → Decision → HostState → HostState
deciding c (Replies r) h = answered_line (Ok c) r h
deciding c (Joins n a) h = with_joining h.next_job a (Joining h.next_job FirstRead) (delta_offset h.config.layout a.offset a.id) (ReadSectors 1) (heard_line c h)
deciding c (Leaves s) h = at_member s.number (λ m. signalling_and_refusing m (Some h.next_job)) (heard_line c h)
deciding c (ReadsArea s r) h = with_call s.number r.path (Lease (ForJob h.next_job) (ReadArea r.name)) r.offset (ReadSectors (area_sectors h.config.layout)) (heard_line c h)
deciding c (Shares s lver) h = granting_for s h.next_job c Shared lver (heard_line c h)
deciding c (GivesUp s g) h =
    at_member s.number (λ m h'. after_giving h c m g (releasing_next (given_up h c g) m (spot_of_grant g) g)) (heard_line c h)
deciding c (TakesOver s g) h = granting_for s h.next_job c g.mode g.lver (given_up h c g)
deciding c (ConvertsTo s r mode) h =
    at_member s.number (λ m g. carrying_lease m (spot_of r) (ForJob h.next_job) (converting_next g m (spot_of r) mode r.name) g) (heard_line c h)
deciding c (Requests s r) h = with_call s.number r.path (RequestRead h.next_job) r.offset (ReadSectors 2) (heard_line c h)
deciding c (SetsValue s at v) h =
    with_call s.number at.path (ValueWrite h.next_job) (value_offset h.config.layout at.base) (WriteRecord (ValueIs v)) (heard_line c h)
deciding c (GetsValue s at) h = with_call s.number at.path (ValueRead h.next_job) (value_offset h.config.layout at.base) (ReadSectors 1) (heard_line c h)

-- The whole of a line that says this.
abbrev pub lining : Result Command ℕ → HostState → HostState
lining (Err column) h = answered_line (Err column) (Misread column) h
lining (Ok c) h = deciding c (decision_of h c) h
