-- A search for all laws of a trace.
use Rattle.sl_run.specs.Lawful.{Lawful, Orderly}
use Rattle.sl_run.specs.LawfulArea.{LawfulArea}
use Rattle.sl_run.specs.LawfulBlock.{LawfulBlock}
use Rattle.sl_run.specs.LawfulCalls.{LawfulCalls}
use Rattle.sl_run.specs.LawfulDelta.{LawfulDelta}
use Rattle.sl_run.specs.LawfulEnd.{LawfulEnd}
use Rattle.sl_run.specs.LawfulExit.{LawfulExit}
use Rattle.sl_run.specs.LawfulGrant.{LawfulGrant}
use Rattle.sl_run.specs.LawfulLeader.{LawfulLeader}
use Rattle.sl_run.specs.LawfulModes.{LawfulModes}
use Rattle.sl_run.specs.LawfulParting.{LawfulParting}
use Rattle.sl_run.specs.LawfulRecovery.{LawfulRecovery}
use Rattle.sl_run.specs.LawfulValue.{LawfulValue}
use Rattle.sl_run.specs.LawfulConnections.{LawfulWatchdog}
use Rattle.sl_run.specs.Runs.{EachDaemon, daemons_of}
use Rattle.sl_run.specs.Worlds.{World}
use Rattle.sl_trace.specs.Traces.{FollowsTrace, Setting, Trace}
use Rattle.sl_examples.proofs.Witness.AreaSearch.{seek_areas}
use Rattle.sl_examples.proofs.Witness.BlockSearch.{seek_blocks}
use Rattle.sl_examples.proofs.Witness.CallSearch.{seek_calls}
use Rattle.sl_examples.proofs.Witness.DeltaSearch.{seek_deltas}
use Rattle.sl_examples.proofs.Witness.EachSearch.{seek_each_entry, seek_follows}
use Rattle.sl_examples.proofs.Witness.LeaderSearch.{seek_leaders}
use Rattle.sl_examples.proofs.Witness.ModeSearch.{seek_grants, seek_modes}
use Rattle.sl_examples.proofs.Witness.ProofSearch.{seek_all, ◌>>=◌}
use Rattle.sl_examples.proofs.Witness.WatchdogSearch.{seek_ends, seek_exits, seek_parting, seek_recovery, seek_values, seek_watchdog}
use Rattle.std.specs.Prelude.{Option, Some}

abbrev pub seek_orderly : (st : Setting) (es : Trace) → Option (Orderly st es)
seek_orderly st es = do
  is_trace ← seek_each_entry (FollowsTrace st) (seek_follows st) es
  calls ← seek_each_entry (LawfulCalls st) (seek_calls st) es
  delta ← seek_each_entry (LawfulDelta st) (seek_deltas st) es
  area ← seek_each_entry (LawfulArea st) (seek_areas st) es
  block ← seek_each_entry (LawfulBlock st) (seek_blocks st) es
  leader ← seek_each_entry (LawfulLeader st) (seek_leaders st) es
  modes ← seek_each_entry (LawfulModes st) (seek_modes st) es
  watchdog ← seek_each_entry (LawfulWatchdog st) (seek_watchdog st) es
  granting ← seek_each_entry (LawfulGrant st) (seek_grants st) es
  ends ← seek_each_entry (LawfulEnd st) (seek_ends st) es
  parting ← seek_each_entry (LawfulParting st) (seek_parting st) es
  values ← seek_each_entry (LawfulValue st) (seek_values st) es
  Some (record {
    is_trace = is_trace;
    calls = calls;
    delta = delta;
    area = area;
    block = block;
    leader = leader;
    modes = modes;
    watchdog = watchdog;
    granting = granting;
    ends = ends;
    parting = parting;
    values = values;
  })

abbrev pub seek_lawful : (st : Setting) (es : Trace) → Option (Lawful st es)
seek_lawful st es = do
  orderly ← seek_orderly st es
  exits ← seek_each_entry LawfulExit seek_exits es
  recovery ← seek_each_entry (LawfulRecovery st) (seek_recovery st) es
  Some (record { orderly = orderly; exits = exits; recovery = recovery })

abbrev pub seek_each_daemon : (w : World) → Option (EachDaemon Lawful w)
seek_each_daemon w = seek_all (λ d. Lawful d.setting d.trace) (λ d. seek_lawful d.setting d.trace) (daemons_of w)
