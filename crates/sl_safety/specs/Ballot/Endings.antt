-- Ballots that end in a session's trace end in the history of the resource.
use Rattle.sl_ballot_law.specs.Ballots.{BallotEnded}
use Rattle.sl_ballot_law.specs.History.{Owner as Holder}
use Rattle.sl_run_law.specs.Course.CallStamps.{stamp_in}
use Rattle.sl_trace.specs.Leases.{ended_ballots, lease_calls}
use Rattle.sl_safety.specs.Resources.Histories.{is_host}
use Rattle.sl_safety.specs.Resources.HistoryLaws.{NamesDiffer, history_of_line, spot_of_line}
use Rattle.sl_safety.specs.Resources.SentCalls.{holder_of, is_joined_there}
use Rattle.sl_run.specs.Runs.{Happening}
use Rattle.sl_run.specs.Safety.{Found, IsSession, LawfulRun, SessionId, setting_in, trace_of, world_at}
use Rattle.sl_run.specs.Worlds.{Program, Stamp, World}
use Rattle.sl_run.specs.declared.header.Header.{Header}
use Rattle.sl_run.specs.declared.header.ResourceLine.{ResourceLine}
use Rattle.sl_sector.specs.declared.sector.Owner.{Owner}
use Rattle.sl_trace.specs.Traces.{Trace}
use Rattle.sl_trace.specs.declared.effects.Entry.{Entry}
use Rattle.std.specs.Prelude.{Contains, IsTrue, List, Some, length, ℕ, ◌++◌, ◌∷◌, ◌≡◌}

-- An owner as the argument over ballots names it.
abbrev pub holder_as : Owner → Holder
holder_as o = record { id = o.id; generation = o.generation }

-- An entry of a session's trace, with those before it, and the step at which it came.
pub record IsEntryAt (f : Found) (entry : Entry) (past : Trace) (step : ℕ) : Type 0 where
  pub later : Trace
  pub whole : trace_of f ≡ later ++ entry ∷ past
  pub stamp : Stamp
  pub stamped : stamp_in f.daemon.stamps (length past) ≡ Some stamp
  pub step_is : stamp.step ≡ step

-- Joined sessions of the lockspace have ids of hosts.
abbrev pub HostsJoin : World → List ℕ → Type 0
HostsJoin w lockspace = (i : SessionId) → IsTrue (is_joined_there w lockspace i) → IsTrue (is_host w (holder_of w i).id)

-- A ballot that has ended in a trace by an entry has ended in the history by the entry's step.
abbrev pub EndedBallotsEnd : Type 0
EndedBallotsEnd = (p : Program) (h : Header) (xs : List Happening) (r : ResourceLine) → LawfulRun p h xs → Contains h.resources r
    → NamesDiffer (world_at p h xs) r.lockspace → HostsJoin (world_at p h xs) r.lockspace → (i : SessionId) (f : Found) → IsSession (world_at p h xs) i f
    → IsTrue (is_joined_there (world_at p h xs) r.lockspace i) → (entry : Entry) (past : Trace) (step : ℕ) → IsEntryAt f entry past step → (n : ℕ) (o : Owner)
    → Contains (ended_ballots (setting_in f).layout (lease_calls (setting_in f) (entry ∷ past) f.session (spot_of_line r))) (n, o)
    → BallotEnded (history_of_line p h xs r) (holder_of (world_at p h xs) i) n (holder_as o) step
