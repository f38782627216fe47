-- Passes over members and jobs. Each goes by the numbers that it begins with.
use Rattle.sl_host_state.specs.KeptState.{HostState, MemberState}
use Rattle.sl_host_state.specs.declared.kept_parts.JobState.{JobState}
use Rattle.sl_host_law.specs.StepParts.Signals.{over}
use Rattle.std.specs.Prelude.{None, Option, Some, find, map, ℕ, ◌==◌}

-- The member of this number.
abbrev pub member_numbered : HostState → ℕ → Option MemberState
member_numbered h n = find (λ m. m.who.number == n) h.members

-- Of the member of this number, if it is there still.
abbrev pub at_member : ℕ → (MemberState → HostState → HostState) → HostState → HostState
at_member n f h = elim (member_numbered h n) [ None ↦ h | Some m ↦ f m h ]

-- Of each member.
abbrev pub for_members : (MemberState → HostState → HostState) → HostState → HostState
for_members f h = over (map (λ m. m.who.number) h.members) (λ n. at_member n f) h

-- The job of this number.
abbrev pub job_with : HostState → ℕ → Option JobState
job_with h n = find (λ j. j.number == n) h.jobs

-- Of the job of this number, if it runs still.
abbrev pub at_job : ℕ → (JobState → HostState → HostState) → HostState → HostState
at_job n f h = elim (job_with h n) [ None ↦ h | Some j ↦ f j h ]

-- Of each job.
abbrev pub for_jobs : (JobState → HostState → HostState) → HostState → HostState
for_jobs f h = over (map (λ j. j.number) h.jobs) (λ n. at_job n f) h
