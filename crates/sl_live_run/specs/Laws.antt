-- What a live run begins with is good to begin with.
use Rattle.sl_world_state.specs.Daemons.{begun_with}
use Rattle.sl_world_state.specs.declared.daemon.Site.{Site}
use Rattle.sl_world_state.specs.FirstKept.{session_of}
use Rattle.sl_world_state.specs.SaneWorlds.{ReadsCommands}
use Rattle.sl_live_run.specs.Grounds.{IsSiteOf}
use Rattle.sl_run.specs.Headers.{IsHeader}
use Rattle.sl_run.specs.Lawful.{IsSetting}
use Rattle.sl_run.specs.declared.header.Header.{Header}
use Rattle.sl_text.specs.Forms.{Form}
use Rattle.sl_trace.specs.declared.command.Command.{Command}
use Rattle.std.specs.Prelude.{List, ℕ}

-- The site that a header gives a machine makes a setting of a daemon.
abbrev pub SitesAreSettings : Type 0
SitesAreSettings =
    (commands : Header → List (Form Command)) (h : Header) → IsHeader h → ReadsCommands commands h → (m : ℕ) (s : Site) → IsSiteOf h m (session_of h m) s
    → IsSetting (begun_with commands h s)
