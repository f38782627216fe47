-- The site that a header gives a machine makes a setting of a daemon.
use Rattle.sl_command.proofs.DefaultNameLaws.{default_name_text_named}
use Rattle.sl_world_state.specs.Daemons.{begun_with}
use Rattle.sl_world_state.specs.declared.daemon.Site.{Site}
use Rattle.sl_world_state.specs.FirstKept.{session_of}
use Rattle.sl_world_state.specs.SaneWorlds.{ReadsCommands}
use Rattle.sl_live_run.specs.Grounds.{IsSiteOf, drawn_site}
use Rattle.sl_live_run.specs.Laws.{SitesAreSettings}
use Rattle.sl_run.specs.Headers.{IsHeader}
use Rattle.sl_run.specs.Lawful.{IsSetting}
use Rattle.sl_run.specs.declared.header.Header.{Header}
use Rattle.sl_run.specs.declared.header.SessionLine.{SessionLine}
use Rattle.sl_sector.proofs.WrittenBytes.{sha256_is_digest}
use Rattle.sl_text.specs.Forms.{Form}
use Rattle.sl_trace.specs.declared.command.Command.{Command}
use Rattle.sl_world_law.proofs.FirstDaemons.{first_settings}
use Rattle.std.proofs.Common.{arith, refl, subst, sym}
use Rattle.std.specs.Prelude.{List, None, Option, Some, ℕ, ◌≡◌}

-- A machine without a session begins with none, under a name that is one.
drawn_setting : (commands : Header → List (Form Command)) (h : Header) → IsHeader h → ReadsCommands commands h → (m bits : ℕ)
    → IsSetting (begun_with commands h (drawn_site m bits))
drawn_setting commands h is reads m bits =
    record {
      timing = is.timing;
      layout = (h.geometry, is.geometry, refl);
      digest = sha256_is_digest;
      name = default_name_text_named bits;
      reads = reads;
      each = tt;
      different = λ i j d before inside. absurd (omega (arith, inside));
    }

setting_by : (commands : Header → List (Form Command)) (h : Header) → IsHeader h → ReadsCommands commands h → (m : ℕ) (s : Site) (o : Option SessionLine) → session_of h m ≡ o
    → IsSiteOf h m o s → IsSetting (begun_with commands h s)
setting_by commands h is reads m s None at site = subst (λ (x : Site). IsSetting (begun_with commands h x)) (sym site.1) (drawn_setting commands h is reads m site.0)
setting_by commands h is reads m s (Some l) at site = subst (λ (x : Site). IsSetting (begun_with commands h x)) (sym site) (first_settings commands h is reads m l at)

pub sites_are_settings : SitesAreSettings
sites_are_settings commands h is reads m s site = setting_by commands h is reads m s (session_of h m) refl site
