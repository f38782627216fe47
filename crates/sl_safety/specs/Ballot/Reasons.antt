-- Why each instance of a resource's history was begun; and so each write of its blocks is one of a ballot.
use Rattle.sl_safety.specs.Ballot.Endings.{HostsJoin}
use Rattle.sl_ballot_law.specs.Ballots.{BeginReason, KeepsBallots}
use Rattle.sl_ballot_law.specs.History.{History}
use Rattle.sl_trace.specs.Leases.{Phase1_write, is_at}
use Rattle.sl_safety.specs.Resources.HistoryLaws.{NamesDiffer, history_of_line, spot_of_line}
use Rattle.sl_safety.specs.Resources.SentCalls.{Sent, sent_at, writes_block}
use Rattle.sl_run.specs.Runs.{Happening}
use Rattle.sl_run.specs.Safety.{LawfulRun, world_at}
use Rattle.sl_run.specs.Worlds.{Program}
use Rattle.sl_run.specs.declared.header.Header.{Header}
use Rattle.sl_run.specs.declared.header.ResourceLine.{ResourceLine}
use Rattle.sl_trace.specs.Traces.{new_call}
use Rattle.std.specs.Prelude.{Contains, IsTrue, List, Some, ℕ, ◌≡◌}

-- What is said of the history of each resource whose joined sessions have different names, with ids of hosts.
abbrev pub OfHostsHistory : (History → Type 0) → Type 0
OfHostsHistory P = (p : Program) (h : Header) (xs : List Happening) (r : ResourceLine) → LawfulRun p h xs → Contains h.resources r
    → NamesDiffer (world_at p h xs) r.lockspace → HostsJoin (world_at p h xs) r.lockspace → P (history_of_line p h xs r)

-- Each phase 1 has a reason to begin its instance.
abbrev pub InstancesHaveReasons : Type 0
InstancesHaveReasons = (p : Program) (h : Header) (xs : List Happening) (r : ResourceLine) → LawfulRun p h xs → Contains h.resources r
    → NamesDiffer (world_at p h xs) r.lockspace → HostsJoin (world_at p h xs) r.lockspace → (e : ℕ) (x : Sent)
    → sent_at (world_at p h xs) (spot_of_line r) writes_block e ≡ Some x → IsTrue (is_at Phase1_write (new_call 0 0 x.course.call))
    → BeginReason (history_of_line p h xs r) ((history_of_line p h xs r).writer e) ((history_of_line p h xs r).block e).lver e

-- Each write is one of a ballot.
abbrev pub HistoriesKeepTheirBallots : Type 0
HistoriesKeepTheirBallots = OfHostsHistory KeepsBallots
