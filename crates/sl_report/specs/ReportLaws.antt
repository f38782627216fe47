-- Schedules without lines.
use Rattle.sl_report.specs.Languages.{Language}
use Rattle.sl_report.specs.RefusalLines.{refusal_line}
use Rattle.sl_report.specs.Schedules.{replay_lines}
use Rattle.sl_run.specs.declared.event.Refusal.TheVariants.{Syntax}
use Rattle.std.specs.Prelude.{[], ◌∷◌, ◌≡◌}

-- An empty source ends before `begin`, one past its last line.
abbrev pub EmptySourceIsRefused : Type 0
EmptySourceIsRefused = (lang : Language) → replay_lines lang [] ≡ refusal_line 1 (lang.told Syntax) ∷ []
