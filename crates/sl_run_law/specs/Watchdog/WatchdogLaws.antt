-- What watchdogs promise of the sessions of a lawful run.
use Rattle.sl_ids.specs.Clocks.Watchdog.{IsConnected, MayAct}
use Rattle.sl_run_law.specs.Course.Mirrors.{since_restart}
use Rattle.sl_run.specs.LawfulConnections.{is_covered}
use Rattle.sl_run_law.specs.Moment.MomentsFollowSteps.{point_of}
use Rattle.sl_run.specs.Runs.{Happening}
use Rattle.sl_run.specs.Safety.{FlightsCovered, Found, IsSession, LawfulRun, SessionId, has_write_in_flight, trace_of, was_reset, world_at}
use Rattle.sl_run.specs.Worlds.{Program, Stamp, World}
use Rattle.sl_run.specs.declared.header.Header.{Header}
use Rattle.sl_run_law.specs.Watchdog.ActingTimes.{acting_stamp}
use Rattle.std.specs.Prelude.{List, Some, false, true, ◌≡◌}

-- The session's connection stands, on a machine that is up, and was found unexpired by the last keepalive.
pub record StandsConnected (h : Header) (w : World) (f : Found) : Type 0 where
  pub stamp : Stamp
  pub from : acting_stamp f.daemon f.session ≡ Some stamp
  pub connected : IsConnected h.timing (point_of stamp) (point_of f.machine.kept) w.moment

-- The session may act.
pub record ActsStill (h : Header) (w : World) (f : Found) : Type 0 where
  pub stamp : Stamp
  pub from : acting_stamp f.daemon f.session ≡ Some stamp
  pub acts : MayAct h.timing (point_of stamp) w.moment

-- A session whose connection must stand is connected, as long as its machine is not reset, whether its daemon still runs or not.
abbrev pub CoveredAreConnected : Type 0
CoveredAreConnected = (p : Program) (h : Header) (xs : List Happening) → LawfulRun p h xs → (i : SessionId) (f : Found) → IsSession (world_at p h xs) i f
    → since_restart f.machine ≡ Some f.daemon → is_covered (trace_of f) f.session ≡ true → StandsConnected h (world_at p h xs) f

-- .. and it may act, until its machine was reset more than `land` ago: whatever it wrote before the reset may land till then.
abbrev pub CoveredMayAct : Type 0
CoveredMayAct = (p : Program) (h : Header) (xs : List Happening) → LawfulRun p h xs → (i : SessionId) (f : Found) → IsSession (world_at p h xs) i f
    → was_reset f ≡ false → is_covered (trace_of f) f.session ≡ true → ActsStill h (world_at p h xs) f

-- A session with a write in flight may act: its connection stands, or its machine was reset a short time ago.
abbrev pub WritersMayAct : Type 0
WritersMayAct = (p : Program) (h : Header) (xs : List Happening) → LawfulRun p h xs → (i : SessionId) (f : Found) → IsSession (world_at p h xs) i f
    → has_write_in_flight i f.machine ≡ true → ActsStill h (world_at p h xs) f

-- Each write in flight is covered by a connection, or by a reset at most `land` ago.
abbrev pub WritesInFlightAreCovered : Type 0
WritesInFlightAreCovered = (p : Program) (h : Header) (xs : List Happening) → LawfulRun p h xs → FlightsCovered (world_at p h xs)
