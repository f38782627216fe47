-- How many sectors a call reads, by what it is for.
use Rattle.sl_area.specs.AreaSizes.{Layout}
use Rattle.sl_due.specs.Steps.{Step}
use Rattle.sl_due_facts.specs.Facts.WayFacts.{sectors_of_read}
use Rattle.sl_host_state.specs.KeptState.{HostState}
use Rattle.sl_host_state.specs.HostStands.{sectors_of}
use Rattle.sl_host_state.specs.declared.kept_parts.OpenCall.{OpenCall}
use Rattle.sl_step_law.specs.ReadyHosts.{IsReady}
use Rattle.sl_trace.specs.declared.effects.JoinStep.TheVariants.{ClaimWrite, DecidingRead, FirstRead, FirstRenewal, VerifyRead, WatchRead}
use Rattle.sl_trace.specs.LeaseDecisions.{first_step, read_of_step}
use Rattle.sl_trace.specs.declared.effects.Op.{Op}
use Rattle.sl_trace.specs.declared.effects.Purpose.TheVariants.{Joining, Lease, Leaving, Renewal, RequestRead, RequestWrite, SeeRequest, Survey, ValueRead, ValueWrite}
use Rattle.sl_trace.specs.declared.effects.Purpose.{Purpose}
use Rattle.std.specs.Prelude.{Contains, None, Option, Some, option_map, ℕ, ◌≡◌}

-- Of this layout; none of a write. A lease's read that is made once more asks as the first one.
abbrev pub sectors_asked : Layout → Purpose → Option ℕ
sectors_asked g (Joining j FirstRead) = Some 1
sectors_asked g (Joining j WatchRead) = Some 1
sectors_asked g (Joining j DecidingRead) = Some 1
sectors_asked g (Joining j ClaimWrite) = None
sectors_asked g (Joining j VerifyRead) = Some 1
sectors_asked g (Joining j FirstRenewal) = None
sectors_asked g Renewal = None
sectors_asked g Survey = Some g.hosts
sectors_asked g (Leaving j) = None
sectors_asked g (Lease work step) = option_map (sectors_of_read g) (read_of_step (first_step step))
sectors_asked g (RequestRead j) = Some 2
sectors_asked g (RequestWrite j owner) = None
sectors_asked g SeeRequest = Some 1
sectors_asked g (ValueWrite j) = None
sectors_asked g (ValueRead j) = Some 1

-- A call for which no law says what it does, does this.
abbrev pub AsksLone : Purpose → Op → Type 0
AsksLone (RequestWrite j owner) op = sectors_of op ≡ None
AsksLone SeeRequest op = sectors_of op ≡ Some 1
AsksLone (ValueWrite j) op = sectors_of op ≡ None
AsksLone (ValueRead j) op = sectors_of op ≡ Some 1
AsksLone p op = Unit {0}

-- Each open call asks so.
abbrev pub CallsAsk : Type 0
CallsAsk = (h : HostState) (x : Step) (c : OpenCall) → IsReady h x → Contains h.unanswered c → c.sectors ≡ sectors_asked h.config.layout c.purpose
