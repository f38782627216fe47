-- What one machine of a header leaves that runs alone: a history that a daemon stood for, whose lines are those that the script gave it; or a case that
-- holds of it.
use Rattle.sl_book.specs.Closings.{AreBelow}
use Rattle.sl_live_lines.specs.LiveTexts.{count_replies, history_text}
use Rattle.sl_live_run.specs.Runs.{AreServed, Both, Gave, IsLiveCase, IsLiveHistory, Leavings, begun_on, begun_telling, lines_for, refusals_text, remains_of}
use Rattle.sl_live_run.specs.declared.compare.LiveDiffer.{LiveDiffer}
use Rattle.sl_live_run.specs.declared.compare.LiveStop.TheVariants.{Differ, NoMemory}
use Rattle.sl_live_run.specs.declared.compare.LiveStop.{LiveStop}
use Rattle.sl_live_run.specs.declared.run.LiveRun.{LiveRun}
use Rattle.sl_outside.specs.declared.act.Act.{Act}
use Rattle.sl_output.specs.Outputs.{IsPut}
use Rattle.sl_output.specs.Pieces.{Piece, text_by}
use Rattle.sl_reader.specs.declared.live_lines.LiveLine.{LiveLine}
use Rattle.sl_run.specs.declared.header.Header.{Header}
use Rattle.sl_text.specs.Forms.{Form}
use Rattle.sl_trace.specs.Traces.{Setting, Trace}
use Rattle.sl_trace.specs.declared.command.Command.{Command}
use Rattle.sl_trace.specs.declared.effects.Entry.{Entry}
use Rattle.sl_world_state.specs.Daemons.{begun_with}
use Rattle.sl_world_state.specs.declared.daemon.Site.{Site}
use Rattle.std.specs.Prelude.{Bool, IfErr, IfOk, List, Option, map, [], ℕ, ◌+◌, ◌<◌, ◌∷◌, ◌≡◌}

-- The machine behind so many others has this history, for the lines that the script gave in this run, with so many replies; these pieces are what is
-- told of it, with its events or without, and of which lines are refused. The disks that are left are made of those that it had by just its calls, the spawners that are left
-- were asked for just its signals and its starts, and nothing else was put out.
pub record HasToldOwn {D A P : Type 0} (content : A → Option (List ℕ)) (area_faults : A → ℕ) (spawned : P → Option (List Act)) (events : Bool) (stands : D → Setting → Trace → Type 0)
    (commands : Header → List (Form Command)) (header : Header) (place : ℕ) (site : Site) (disks : Both A) (before after : List LiveLine → Type 0) (pieces : List Piece)
    (replies : ℕ) (left : Leavings A P) : Type 0 where
  pub lines : List LiveLine
  pub gave : Gave before after lines
  pub history : List Entry
  pub live : IsLiveHistory stands (begun_with commands header site) (begun_on header site) (lines_for (place + 1) lines) history
  pub text : text_by place pieces ≡ history_text (place + 1) (begun_telling events header site) (begun_on header site) history
  pub refused : text_by (place + 1) pieces ≡ refusals_text lines
  pub others : (other : ℕ) → other < place → text_by other pieces ≡ []
  pub below : AreBelow (place + 2) pieces
  pub count : replies ≡ count_replies (begun_on header site) history
  pub served : AreServed content area_faults spawned header.geometry.sector (begun_with commands header site) history disks left

-- Why there is no history: a case of this machine, for lines that the script gave in this run; or want of memory, of which nothing is said.
pub record IsOwnCase {D : Type 0} (stands : D → Setting → Trace → Type 0) (commands : Header → List (Form Command)) (header : Header) (place : ℕ) (site : Site)
    (before after : List LiveLine → Type 0) (machine : ℕ) (d : LiveDiffer) : Type 0 where
  pub numbered : machine ≡ place + 1
  pub lines : List LiveLine
  pub gave : Gave before after lines
  pub case_of : IsLiveCase stands (begun_with commands header site) (begun_on header site) (lines_for machine lines) d

abbrev pub IsOwnStop : {D : Type 0} → (D → Setting → Trace → Type 0) → (Header → List (Form Command)) → Header → ℕ → Site → (List LiveLine → Type 0) → (List LiveLine → Type 0)
    → LiveStop → Type 0
IsOwnStop stands commands header place site before after (Differ machine d) = IsOwnCase stands commands header place site before after machine d
IsOwnStop stands commands header place site before after NoMemory = Unit {0}

-- What a run leaves: such a history, or why there is none; and a sink that has taken pieces behind what it had, or a front of them after a fault.
pub record HasRunOwn {D K A P : Type 0} (content : A → Option (List ℕ)) (area_faults : A → ℕ) (spawned : P → Option (List Act)) (events : Bool) (stands : D → Setting → Trace → Type 0)
    (commands : Header → List (Form Command)) (header : Header) (place : ℕ) (site : Site) (disks : Both A) (before after : List LiveLine → Type 0)
    (taken now : Option (List ℕ)) (faults later : ℕ) (r : LiveRun K A P) : Type 0 where
  pub pieces : List Piece
  pub put : IsPut taken now faults later pieces r.cut
  pub ok : IfOk r.replies (λ n. (r.machines ≡ 1) × (left : Leavings A P) × (map remains_of r.remains.items ≡ left ∷ [])
      × HasToldOwn content area_faults spawned events stands commands header place site disks before after pieces n left)
  pub stop : IfErr r.replies (IsOwnStop stands commands header place site before after)
