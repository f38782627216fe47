-- What becomes of the daemons that run.
use Rattle.sl_world_state.specs.Daemons.{MayCome, begun_with}
use Rattle.sl_world_state.specs.declared.daemon.Most.{Most}
use Rattle.sl_world_state.specs.declared.daemon.Site.{Site}
use Rattle.sl_run.specs.declared.header.Header.{Header}
use Rattle.sl_text.specs.Forms.{Form}
use Rattle.sl_trace.specs.Traces.{Setting, Trace}
use Rattle.sl_trace.specs.declared.command.Command.{Command}
use Rattle.sl_trace.specs.declared.effects.Effects.{Effects}
use Rattle.sl_trace.specs.declared.input.Input.{Input}
use Rattle.sl_world_law.specs.WorldsStand.{HasBegun, HasStepped}
use Rattle.sl_world_state.specs.FirstKept.{session_of}
use Rattle.std.specs.List.{slice_set}
use Rattle.std.specs.Prelude.{List, Option, Some, length, slice_get, [], ℕ, ◌+◌, ◌≡◌}

-- A daemon runs at this place, and this may come to it.
pub record MayStepAt {D : Type 0} (stands : D → Setting → Trace → Type 0) (hosts : List (Option D)) (i now : ℕ) (input : Input) : Type 0 where
  pub host : D
  pub runs : slice_get hosts i ≡ Some (Some host)
  pub setting : Setting
  pub trace : Trace
  pub stood : stands host setting trace
  pub comes : MayCome setting trace now input

-- It took a step: there is one still, which stands for one entry more.
pub record HostStepped {D : Type 0} (stands : D → Setting → Trace → Type 0) (makes : D → Most) (hosts : List (Option D)) (i now : ℕ) (input : Input)
    (after : List (Option D)) (fx : Effects) : Type 0 where
  pub next : D
  pub hosts_are : after ≡ slice_set hosts i (Some next)
  pub goes : (h : D) → slice_get hosts i ≡ Some (Some h) → HasStepped stands (makes h) h next now input fx

-- One has begun at this place: it stands for no step.
pub record HostBegun {D : Type 0} (commands : Header → List (Form Command)) (stands : D → Setting → Trace → Type 0) (h : Header) (site : Site) (hosts : List (Option D)) (i : ℕ)
    (after : List (Option D)) : Type 0 where
  pub next : D
  pub hosts_are : after ≡ slice_set hosts i (Some next)
  pub stood : stands next (begun_with commands h site) []

-- Those of the first machines have begun, so many.
pub record FirstBegun {D : Type 0} (commands : Header → List (Form Command)) (stands : D → Setting → Trace → Type 0) (h : Header) (n : ℕ) (hosts : List (Option D)) : Type 0 where
  pub counted : length hosts ≡ n
  pub each : (i : ℕ) (o : Option D) → slice_get hosts i ≡ Some o → HasBegun commands stands h (i + 1) (session_of h (i + 1)) o
