-- All that is asked of a daemon's trace, and of what it is made of.
--
-- 1. `Orderly`: what holds at each moment of a step, whatever of it is still to come. Safety rests on this alone.
-- 2. `Lawful`: beside, what is done by the end of each entry: what an exit leaves, and what recovery and leaving ask.
-- 3. `IsSetting`: what a daemon may be made of.
--
-- That a trace is so is said of each entry with those before it, so each front of a lawful trace is lawful (`LawLaws`).
use Rattle.sl_area.specs.AreaSizes.{IsGeometry, Sizes, layout_with}
use Rattle.sl_area.specs.AreaLayout.{is_base}
use Rattle.sl_run.specs.LawfulArea.{LawfulArea}
use Rattle.sl_run.specs.LawfulBlock.{LawfulBlock}
use Rattle.sl_run.specs.LawfulCalls.{LawfulCalls}
use Rattle.sl_run.specs.LawfulDelta.{LawfulDelta}
use Rattle.sl_run.specs.LawfulEnd.{LawfulEnd}
use Rattle.sl_run.specs.LawfulExit.{LawfulExit}
use Rattle.sl_run.specs.LawfulGrant.{LawfulGrant}
use Rattle.sl_run.specs.LawfulLeader.{LawfulLeader}
use Rattle.sl_run.specs.LawfulModes.{LawfulModes}
use Rattle.sl_run.specs.LawfulParting.{LawfulParting}
use Rattle.sl_run.specs.LawfulRecovery.{LawfulRecovery}
use Rattle.sl_run.specs.LawfulValue.{LawfulValue}
use Rattle.sl_run.specs.LawfulConnections.{LawfulWatchdog}
use Rattle.sl_sector.specs.SectorLayouts.{IsDigest}
use Rattle.sl_text.specs.Names.{is_name}
use Rattle.sl_time.specs.Times.{IsTiming}
use Rattle.sl_trace.specs.CommandForms.{IsCommand}
use Rattle.sl_trace.specs.Traces.{EachEntry, IsTrace, Setting, Trace}
use Rattle.sl_trace.specs.declared.command.Command.{Command}
use Rattle.sl_trace.specs.declared.input.Given.{Given}
use Rattle.sl_words.specs.Bounds.{moments}
use Rattle.std.specs.List.{AllByRecursion}
use Rattle.std.specs.Prelude.{AllPairs, IsFalse, IsTrue, List, Ok, bytes_eq, ℕ, ◌<◌, ◌≡◌, ◌≤◌}

-- An orderly trace: what holds at each moment of a step, whatever of it is still to come. Safety rests on this alone; none of these
-- laws names what a host does, only what it may.
pub record Orderly (st : Setting) (es : Trace) : Type 0 where
  pub is_trace : IsTrace st es
  pub calls : EachEntry (LawfulCalls st) es
  pub delta : EachEntry (LawfulDelta st) es
  pub area : EachEntry (LawfulArea st) es
  pub block : EachEntry (LawfulBlock st) es
  pub leader : EachEntry (LawfulLeader st) es
  pub modes : EachEntry (LawfulModes st) es
  pub watchdog : EachEntry (LawfulWatchdog st) es
  pub granting : EachEntry (LawfulGrant st) es
  pub ends : EachEntry (LawfulEnd st) es
  pub parting : EachEntry (LawfulParting st) es
  pub values : EachEntry (LawfulValue st) es

-- A lawful trace: it is orderly, and by the end of each entry is done what must be.
pub record Lawful (st : Setting) (es : Trace) : Type 0 where
  pub orderly : Orderly st es
  pub exits : EachEntry LawfulExit es
  pub recovery : EachEntry (LawfulRecovery st) es

-- A session that a daemon may begin with.
pub record IsGiven (st : Setting) (g : Given) : Type 0 where
  pub id : (1 ≤ g.id) × (g.id ≤ st.layout.hosts)
  pub base : IsTrue (is_base st.layout g.offset)
  pub renewed : g.renewed < moments
  pub lockspace : IsTrue (is_name g.lockspace)

-- What a daemon may be made of. (Bounds on its numbers, its grace and its count of sessions are a program's: no law needs them.).
pub record IsSetting (st : Setting) : Type 0 where
  pub timing : IsTiming st.timing
  pub layout : (g : Sizes) × IsGeometry g × (st.layout ≡ layout_with st.layout.digest g)
  pub digest : IsDigest st.layout.digest
  pub name : IsTrue (is_name st.name)
  -- a place within a sector, or an id that no host has, would be written as it was read
  pub reads : (text : List ℕ) (c : Command) → st.read text ≡ Ok c → IsCommand st.layout c
  pub each : AllByRecursion (IsGiven st) st.given
  pub different : AllPairs (λ a b. IsFalse (bytes_eq a.lockspace b.lockspace)) st.given
