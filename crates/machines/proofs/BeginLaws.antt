-- A header that was read is one that a world may begin with, and the site of its first session makes a setting.
use Rattle.sl_world_state.specs.Daemons.{begun_with}
use Rattle.sl_world_state.specs.declared.daemon.Site.{Site}
use Rattle.sl_play.specs.Headers.HeaderLaw.{EachHeaderIsGood}
use Rattle.sl_world_state.specs.FirstKept.{session_of}
use Rattle.sl_world_state.specs.SaneWorlds.{ReadsCommands}
use Rattle.sl_live_run.specs.Grounds.{IsSiteOf}
use Rattle.sl_live_run.specs.Laws.{SitesAreSettings}
use Rattle.sl_run.specs.Headers.{IsHeader}
use Rattle.sl_run.specs.Lawful.{IsSetting}
use Rattle.sl_run.specs.Worlds.{whole_program}
use Rattle.sl_run.specs.declared.event.Refusal.{Refusal}
use Rattle.sl_run.specs.declared.header.Header.{Header}
use Rattle.sl_run.specs.declared.header.SessionLine.{SessionLine}
use Rattle.sl_reader.specs.HeaderBegins.{HeaderBegins, HeaderIsRead, lines_left}
use Rattle.sl_reader.specs.LineReads.{ReaderState}
use Rattle.sl_text.specs.Forms.{Form}
use Rattle.sl_trace.specs.declared.command.Command.{Command}
use Rattle.sl_world_law.specs.WorldsStand.{first_site}
use Rattle.std.proofs.Common.{List, Ok, Option, Result, Some, [], refl, subst, sym, ℕ, ◌++◌, ◌≡◌}

good_begun : (before after : Option (List ℕ)) (r : ReaderState) (h : Header) → EachHeaderIsGood → HeaderBegins before after r h → IsHeader h
good_begun before after r h good b = good whole_program (b.consumed ++ []) h (lines_left b.consumed [] r) (b.reads [] (λ e. refl))

pub good_read : (before after : Option (List ℕ)) (r : ReaderState) (x : Result Header (ℕ × Refusal)) (h : Header) → EachHeaderIsGood → HeaderIsRead before after r x
    → x ≡ Ok h → IsHeader h
good_read before after r x h good read is = good_begun before after r h good (subst (HeaderIsRead before after r) is read)

pub good_site : (commands : Header → List (Form Command)) (h : Header) (m : ℕ) (l : SessionLine) (s : Site) → SitesAreSettings → IsHeader h → ReadsCommands commands h
    → session_of h m ≡ Some l → s ≡ first_site h m l → IsSetting (begun_with commands h s)
good_site commands h m l s sites is reads at told = sites commands h is reads m s (subst (λ o. IsSiteOf h m o s) (sym at) told)
