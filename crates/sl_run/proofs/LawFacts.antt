-- Fronts of lawful traces.
use Rattle.sl_run.specs.Caused.{AnswersWell, IsCaused}
use Rattle.sl_run.specs.Lawful.{Lawful, Orderly}
use Rattle.sl_run.specs.LawfulArea.{LawfulArea}
use Rattle.sl_run.specs.LawfulBlock.{LawfulBlock}
use Rattle.sl_run.specs.LawfulCalls.{LawfulCalls}
use Rattle.sl_run.specs.LawfulDelta.{LawfulDelta}
use Rattle.sl_run.specs.LawfulEnd.{LawfulEnd}
use Rattle.sl_run.specs.LawfulExit.{LawfulExit}
use Rattle.sl_run.specs.LawfulGrant.{LawfulGrant}
use Rattle.sl_run.specs.LawfulLeader.{LawfulLeader}
use Rattle.sl_run.specs.LawfulModes.{LawfulModes}
use Rattle.sl_run.specs.LawfulParting.{LawfulParting}
use Rattle.sl_run.specs.LawfulRecovery.{LawfulRecovery}
use Rattle.sl_run.specs.LawfulValue.{LawfulValue}
use Rattle.sl_run.specs.LawfulConnections.{LawfulWatchdog}
use Rattle.sl_trace.proofs.TraceFacts.{each_entry-front}
use Rattle.sl_trace.specs.Traces.{FollowsTrace, Setting, Trace}
use Rattle.std.specs.Prelude.{◌++◌}

pub orderly-front : (st : Setting) (later es : Trace) → Orderly st (later ++ es) → Orderly st es
orderly-front st later es h =
    record {
      is_trace = each_entry-front (FollowsTrace st) later es h.is_trace;
      calls = each_entry-front (LawfulCalls st) later es h.calls;
      delta = each_entry-front (LawfulDelta st) later es h.delta;
      area = each_entry-front (LawfulArea st) later es h.area;
      block = each_entry-front (LawfulBlock st) later es h.block;
      leader = each_entry-front (LawfulLeader st) later es h.leader;
      modes = each_entry-front (LawfulModes st) later es h.modes;
      watchdog = each_entry-front (LawfulWatchdog st) later es h.watchdog;
      granting = each_entry-front (LawfulGrant st) later es h.granting;
      ends = each_entry-front (LawfulEnd st) later es h.ends;
      parting = each_entry-front (LawfulParting st) later es h.parting;
      values = each_entry-front (LawfulValue st) later es h.values;
    }

pub lawful-front : (st : Setting) (later es : Trace) → Lawful st (later ++ es) → Lawful st es
lawful-front st later es h =
    record {
      orderly = orderly-front st later es h.orderly;
      exits = each_entry-front LawfulExit later es h.exits;
      recovery = each_entry-front (LawfulRecovery st) later es h.recovery;
    }

pub caused-front : (st : Setting) (later es : Trace) → IsCaused st (later ++ es) → IsCaused st es
caused-front st later es h = each_entry-front (AnswersWell st) later es h
