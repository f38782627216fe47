-- Whose ballots end: only a joined session of a resource's lockspace ends a ballot on the resource's area.
use Rattle.sl_area.specs.AreaLayout.{is_base}
use Rattle.sl_trace.specs.Leases.{ended_ballots, lease_calls}
use Rattle.sl_safety.specs.Resources.HistoryLaws.{spot_of_line}
use Rattle.sl_safety.specs.Resources.SentCalls.{is_joined_there}
use Rattle.sl_run.specs.Runs.{Happening}
use Rattle.sl_run.specs.Safety.{Found, IsSession, LawfulRun, SessionId, setting_in, trace_of, world_at}
use Rattle.sl_run.specs.Worlds.{Program}
use Rattle.sl_run.specs.declared.header.Header.{Header}
use Rattle.sl_run.specs.declared.header.ResourceLine.{ResourceLine}
use Rattle.sl_sector.specs.declared.sector.Owner.{Owner}
use Rattle.sl_trace.specs.Traces.{Trace}
use Rattle.sl_trace.specs.declared.effects.Spot.{Spot}
use Rattle.std.specs.Prelude.{Contains, IsTrue, List, ℕ, ◌++◌, ◌≡◌}

-- Where a ballot of a session has ended at a front of its trace, on the area at a base, a resource of the header is there, and the session
-- has joined its lockspace.
abbrev pub EndersAreJoined : Type 0
EndersAreJoined = (p : Program) (h : Header) (xs : List Happening) → LawfulRun p h xs → (i : SessionId) (f : Found) → IsSession (world_at p h xs) i f
    → (later front : Trace) → trace_of f ≡ later ++ front → (at : Spot) → IsTrue (is_base (world_at p h xs).layout at.base) → (q : ℕ × Owner)
    → Contains (ended_ballots (setting_in f).layout (lease_calls (setting_in f) front f.session at)) q
    → (r : ResourceLine) × Contains h.resources r × (at ≡ spot_of_line r) × IsTrue (is_joined_there (world_at p h xs) r.lockspace i)
