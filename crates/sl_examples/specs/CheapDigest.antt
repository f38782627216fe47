-- A cheap digest, with which long examples compute. It is for examples alone: sums collide.
use Rattle.sl_area.specs.AreaSizes.{layout_of}
use Rattle.sl_report.specs.Languages.{Language, language_of}
use Rattle.sl_report.specs.Schedules.{replay_lines}
use Rattle.sl_run.specs.Worlds.{Program}
use Rattle.sl_sector.specs.FieldBytes.{u32_bytes}
use Rattle.sl_text.specs.Forms.{as_bytes}
use Rattle.sl_trace.specs.CommandForms.{forms}
use Rattle.std.specs.Prelude.{List, replicate, sum, ℕ, ◌++◌}

-- The sum of the bytes, and zeros.
abbrev pub cheap_digest : List ℕ → List ℕ
cheap_digest bs = u32_bytes (sum bs) ++ replicate 28 0

-- The whole program, but for its digest.
abbrev pub cheap_program : Program
cheap_program = record { digest = cheap_digest; commands = (λ h. forms (layout_of h.geometry)) }

-- The whole language, of that program.
abbrev pub cheap_language : Language
cheap_language = language_of cheap_program

-- Lines, each with its line feed, replayed with the cheap digest.
abbrev pub replay_cheap : List (List ℕ) → List (List ℕ)
replay_cheap ls = replay_lines cheap_language (as_bytes ls)
