-- Calls of which some are to fail: which, is told before the first.
use Rattle.sl_io.specs.FaultCounts.{one_more}
use Rattle.std.specs.List.{list_any}
use Rattle.std.specs.Prelude.{Bool, List, if◌then◌else◌, ℕ, ◌==◌}

pub record Planned : Type 0 where
  -- how many calls there were
  pub made : ℕ
  -- the numbers of the calls that are to fail, of which the first has number 1
  pub failing : List ℕ
  -- how many faults there were
  pub faults : ℕ

-- The number of the next call.
abbrev pub next_call : Planned → ℕ
next_call p = one_more p.made

-- Whether the next call is to fail.
abbrev pub fails_next : Planned → Bool
fails_next p = list_any (λ k. k == next_call p) p.failing

-- One more fault.
abbrev pub with_fault : Planned → Planned
with_fault p = record { made = p.made; failing = p.failing; faults = one_more p.faults }

-- One more call, and a fault where it was to fail.
abbrev pub after_call : Planned → Planned
after_call p = record {
  made = next_call p;
  failing = p.failing;
  faults = if fails_next p then one_more p.faults else p.faults;
}
