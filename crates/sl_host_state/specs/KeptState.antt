-- What a host keeps: the definitions' own lists, cut to what is asked of them. A part's index is inside the part, and no clause sees it.
--
-- A session's way through a host's lists:
--
--     line `add_lockspace` --> joining --> joined --> in recovery or leaving --> gone
--                                 |                                               ^
--                                 +--> refused, a write unanswered ---------------+
--
-- It is a member from the line's own step on, up to `gone`. What is still asked of a session that is gone is asked of other lists: of
-- open calls (they keep its number, which no member has, so an answer does nothing) and of connections (they keep names, since a
-- refused joining's connection is removed after it has gone).
pub use Rattle.sl_host_state.specs.declared.kept_parts.JoinCall.{JoinCall}
pub use Rattle.sl_host_state.specs.declared.kept_parts.JobState.{JobState}
pub use Rattle.sl_host_state.specs.declared.kept_parts.LeaseCall.{LeaseCall}
pub use Rattle.sl_host_state.specs.declared.kept_parts.OpenCall.{OpenCall}
pub use Rattle.sl_host_state.specs.declared.kept_parts.TopNumber.{TopNumber}
pub use Rattle.sl_host_state.specs.declared.kept_parts.ValuePair.{ValuePair}
pub use Rattle.sl_host_state.specs.declared.kept_parts.WaitingCall.{WaitingCall}
use Rattle.sl_area.specs.AreaSizes.{Layout, Sizes, layout_of}
use Rattle.sl_sector.specs.declared.sector.Block.{Block}
use Rattle.sl_sector.specs.declared.sector.DeltaRec.{DeltaRec}
use Rattle.sl_sector.specs.declared.sector.PairBlock.{PairBlock}
use Rattle.sl_trace.specs.declared.delta.DeltaKnown.{DeltaKnown}
use Rattle.sl_trace.specs.declared.session.Begun.{Begun}
use Rattle.sl_trace.specs.declared.session.Renewing.{Renewing}
use Rattle.sl_trace.specs.declared.session.Session.{Session}
use Rattle.sl_time.specs.Times.{TimingNumbers}
use Rattle.sl_trace.specs.Traces.{Child}
use Rattle.sl_trace.specs.KillPrograms.{KillProgram}
use Rattle.sl_trace.specs.declared.command.Command.{Command}
use Rattle.sl_trace.specs.declared.effects.Effects.{Effects}
use Rattle.sl_trace.specs.declared.effects.Grant.{Grant}
use Rattle.sl_trace.specs.declared.effects.Spot.{Spot}
use Rattle.sl_watch.specs.Watches.{Watched}
use Rattle.std.specs.Prelude.{Bool, List, Option, Result, ℕ}

-- What a host is made of; it never changes.
pub record Config : Type 0 where
  pub timing : TimingNumbers
  pub grace : ℕ
  pub layout : Layout
  pub machine : ℕ
  pub name : List ℕ
  -- what a command line says: for lvmlockd's lines too, which are commands of one process
  pub read : List ℕ → Result Command ℕ

-- ---- a lease

-- What is kept where a block is kept in two sectors: the turn of the own pair that was shown last; what the newest call's answer gave of
-- each host's pair, if the read is to be made once more, and from the second read's submission on what the first one gave so; whether the
-- newest call is a second read. Where a block has one sector nothing is.
pub record PairState : Type 0 where
  pub turn : Option ℕ
  pub first : Option (List (Option PairBlock))
  pub again : Bool

-- A session's lease on an area.
pub record LeaseState : Type 0 where
  pub spot : Spot
  -- the block that was submitted last
  pub own : Option Block
  -- the greatest `mbal` of the blocks read last in one instance, that of the own block at that read: all that is asked of them later
  pub top : Option TopNumber
  -- the resource's name that was verified last; empty before
  pub name : List ℕ
  -- the greatest instance of which a free was submitted; 0 where there is none
  pub freed : ℕ
  -- the instance of the open ballot
  pub ballot : Option ℕ
  -- whether the shared mode may stand in the own block
  pub shown : Bool
  -- the instance that was won last, where its free isn't known to be done
  pub won : Option ℕ
  pub waiting : Option LeaseCall
  -- of the value that was submitted last on the area
  pub value : Option ValuePair
  pub pair : PairState

-- ---- a session

-- What a joining has read and claimed.
pub record JoinState : Type 0 where
  -- what its first read gave, and the reading of that answer
  pub watched : Option (List ℕ)
  pub since : Option ℕ
  pub claim : Option DeltaRec
  pub newest : Option JoinCall

-- A session whose lockspace is in use.
pub record MemberState : Type 0 where
  pub who : Session
  pub joined : Bool
  -- its joining was refused: it is there while a write of it is unanswered
  pub refused : Bool
  pub known : DeltaKnown
  pub joining : JoinState
  -- the last renewal that was answered ok outside recovery, and how recovery began
  pub renewing : Renewing
  -- how its leaving began
  pub leaving : Option Begun
  -- of each id, 1 to hosts, the reading of the last answered request to its host
  pub asked : List (Option ℕ)
  -- of each id what was seen of it
  pub watch : Watched
  -- by place
  pub leases : List LeaseState

-- ---- the whole

-- A host, in a step or between two.
pub record HostState : Type 0 where
  pub config : Config
  -- of the step in progress, and of the step before it; between two steps `reading` is of the last one
  pub reading : ℕ
  pub before : ℕ
  -- the steps so far, with that in progress
  pub entries : ℕ
  -- below this reading nothing is due before an input: a lower bound, so what ends needs no change of it, and what begins lowers it
  pub quiet_until : ℕ
  -- the number of the step's first call
  pub first_call : ℕ
  pub next_job : ℕ
  -- how many children were to be started, and how many sessions there have been
  pub started : ℕ
  pub born : ℕ
  -- by lockspace name
  pub members : List MemberState
  -- the lockspaces whose connections stand, in the order of their registering
  pub connected : List (List ℕ)
  -- the oldest first
  pub unanswered : List OpenCall
  -- by number
  pub jobs : List JobState
  -- in the order of their grants, orphans too: those have process 0
  pub holdings : List Grant
  -- those that run, and those whose start is unanswered, the oldest first
  pub children : List Child
  -- of processes, the one set last first
  pub programs : List KillProgram
  -- the effects of the step so far
  pub made : Effects

-- ---- as code keeps it: what is laid out by sizes, and read by the program's grammar

-- What a host is made of.
pub record Made : Type 0 where
  pub timing : TimingNumbers
  pub grace : ℕ
  pub sizes : Sizes
  pub machine : ℕ
  pub name : List ℕ

-- A host, field by field as above.
pub record HostKept : Type 0 where
  pub config : Made
  pub reading : ℕ
  pub before : ℕ
  pub entries : ℕ
  pub quiet_until : ℕ
  pub first_call : ℕ
  pub next_job : ℕ
  pub started : ℕ
  pub born : ℕ
  pub members : List MemberState
  pub connected : List (List ℕ)
  pub unanswered : List OpenCall
  pub jobs : List JobState
  pub holdings : List Grant
  pub children : List Child
  pub programs : List KillProgram
  pub made : Effects

-- The configuration of a host that reads lines so.
abbrev pub config_with : (List ℕ → Result Command ℕ) → Made → Config
config_with read c = record { timing = c.timing; grace = c.grace; layout = layout_of c.sizes; machine = c.machine; name = c.name; read = read }

-- The state of a host that reads lines so.
abbrev pub state_of : (List ℕ → Result Command ℕ) → HostKept → HostState
state_of read k =
    record {
      config = config_with read k.config;
      reading = k.reading;
      before = k.before;
      entries = k.entries;
      quiet_until = k.quiet_until;
      first_call = k.first_call;
      next_job = k.next_job;
      started = k.started;
      born = k.born;
      members = k.members;
      connected = k.connected;
      unanswered = k.unanswered;
      jobs = k.jobs;
      holdings = k.holdings;
      children = k.children;
      programs = k.programs;
      made = k.made;
    }
