-- What the history of each resource of a lawful run owes to the sessions of its lockspace.
use Rattle.sl_ballot_law.specs.Disk.{ShowsNewest}
use Rattle.sl_ballot_law.specs.History.{History}
use Rattle.sl_ballot_law.specs.Sessions.{EarlierAreOver, EvidenceMeansOver, SessionsInOrder}
use Rattle.sl_safety.specs.Resources.Histories.{is_host}
use Rattle.sl_safety.specs.Resources.HistoryLaws.{NamesDiffer, history_of_line}
use Rattle.sl_safety.specs.Resources.SentCalls.{holder_of, is_joined_there}
use Rattle.sl_run.specs.Runs.{Happening}
use Rattle.sl_run.specs.Safety.{LawfulRun, SessionId, world_at}
use Rattle.sl_run.specs.Worlds.{Program}
use Rattle.sl_run.specs.declared.header.Header.{Header}
use Rattle.sl_run.specs.declared.header.ResourceLine.{ResourceLine}
use Rattle.std.specs.Prelude.{Contains, IsTrue, List}

-- What is said of the history of each resource of a lawful run.
abbrev pub OfHistories : (History → Type 0) → Type 0
OfHistories P = (p : Program) (h : Header) (xs : List Happening) (r : ResourceLine) → LawfulRun p h xs → Contains h.resources r → P (history_of_line p h xs r)

-- Joined sessions of one lockspace have different names for ballots.
abbrev pub NamesAreApart : Type 0
NamesAreApart = (p : Program) (h : Header) (xs : List Happening) (r : ResourceLine) → LawfulRun p h xs → Contains h.resources r
    → NamesDiffer (world_at p h xs) r.lockspace

-- Each of them has the id of a host.
abbrev pub JoinedAreHosts : Type 0
JoinedAreHosts = (p : Program) (h : Header) (xs : List Happening) (r : ResourceLine) → LawfulRun p h xs → Contains h.resources r → (i : SessionId)
    → IsTrue (is_joined_there (world_at p h xs) r.lockspace i) → IsTrue (is_host (world_at p h xs) (holder_of (world_at p h xs) i).id)

-- Only joined sessions act, and over is final.
abbrev pub HistoriesAreInOrder : Type 0
HistoriesAreInOrder = OfHistories SessionsInOrder

-- Where a session joins, all of its id that joined before are over.
abbrev pub HistoriesEndEarlier : Type 0
HistoriesEndEarlier = OfHistories EarlierAreOver

-- Evidence means over.
abbrev pub HistoriesHaveTrueEvidence : Type 0
HistoriesHaveTrueEvidence = OfHistories EvidenceMeansOver

-- The register lemma: a read that is submitted after a block was answered ok shows, of its host, that block or one submitted later.
abbrev pub HistoriesShowNewest : Type 0
HistoriesShowNewest = OfHistories ShowsNewest
