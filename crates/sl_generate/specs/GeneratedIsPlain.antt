-- What is written is the plain program's text.
use Rattle.sl_generate.specs.GeneratorPlay.{GeneratedOf}
use Rattle.sl_report.specs.GeneratedSchedules.{gen_lines}
use Rattle.sl_report.specs.OwedReports.{SoundRun}
use Rattle.sl_run.specs.Worlds.{Program}
use Rattle.sl_text.specs.Forms.{as_bytes}
use Rattle.std.specs.Prelude.{Bool, List, ℕ, ◌≡◌}

-- In a sound run each daemon does what is due, so the seed's events and effects are those that the plain program computes: `gen` has one output.
abbrev pub GeneratedIsPlain : Type 0
GeneratedIsPlain =
    (p : Program) (seed hosts events : ℕ) (paired : Bool) (written : List ℕ) → GeneratedOf SoundRun p seed hosts events paired written
    → written ≡ as_bytes (gen_lines p seed hosts events paired)
