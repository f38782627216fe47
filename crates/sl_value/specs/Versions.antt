-- Versions of values, and the seq of the next write.
use Rattle.sl_sector.specs.declared.sector.ValueRec.{ValueRec}
use Rattle.sl_value.specs.declared.value.Version.{Version}
use Rattle.std.specs.Prelude.{None, Option, Some, if◌then◌else◌, ℕ, ◌+◌, ◌==◌}

-- Which write it is.
abbrev pub version_of : ValueRec → Version
version_of v = record { lver = v.lver; seq = v.seq }

-- The seq of the last write, if it was under this lver; else 0.
abbrev pub last_seq : Option Version → ℕ → ℕ
last_seq None lver = 0
last_seq (Some v) lver = if v.lver == lver then v.seq else 0

-- One above the seq of the last write under this lver, from 1.
abbrev pub next_seq : Option Version → ℕ → ℕ
next_seq last lver = last_seq last lver + 1
