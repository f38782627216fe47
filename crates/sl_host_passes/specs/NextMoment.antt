-- The next moment at which something is due before an input.
use Rattle.sl_host_state.specs.KeptState.{HostState}
use Rattle.sl_host_state.specs.HostStands.{job_moments, moments_of}
use Rattle.sl_host_state.specs.declared.kept_parts.JobState.{JobState}
use Rattle.std.specs.Prelude.{List, None, Option, Some, [], fold, min, ℕ, ◌-◌, ◌^◌}

-- The least of these, and of one before.
abbrev pub least_by : ℕ → List ℕ → ℕ
least_by q ts = fold (λ q t. min q t) q ts

-- The least of all moments; where there is none, the greatest that code has.
abbrev pub next_moment : HostState → ℕ
next_moment h = least_by (2 ^ 64 - 1) (moments_of h)

-- Those of a job that was looked up.
abbrev pub found_moments : HostState → Option JobState → List ℕ
found_moments h None = []
found_moments h (Some j) = job_moments h j
