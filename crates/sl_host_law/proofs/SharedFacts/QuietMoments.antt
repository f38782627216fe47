-- Nothing is due below the reading kept: by what each moment is at or above.
use Rattle.sl_host_law.proofs.SharedFacts.PlainLists.{at_some, flat_has, in_back, in_either, in_flat, in_front}
use Rattle.sl_host_state.specs.KeptState.{HostState, MemberState}
use Rattle.sl_host_state.specs.MadeEffects.{lowered}
use Rattle.sl_host_state.specs.HostStands.{IsQuiet, job_moments, member_moments, moments_of}
use Rattle.sl_host_state.specs.declared.kept_parts.JobState.{JobState}
use Rattle.sl_words.proofs.Lists.{got_inside}
use Rattle.sl_words.proofs.Numbers.{refl_le}
use Rattle.sl_words.proofs.CaseLaws.{true_is_false}
use Rattle.std.proofs.Common.{arith, inl, inr, sym}
use Rattle.std.specs.Prelude.{Bool, Contains, cond, false, flat_map, min, true, ℕ, ◌≡◌, ◌≤◌, ◌⊎◌}

pub moment_quiet : (h : HostState) (now : ℕ) → IsQuiet h → Contains (moments_of h) now → h.quiet_until ≤ now
moment_quiet h now quiet there = let at = at_some (moments_of h) now there in quiet at.0 now at.1

-- A moment is a member's or a job's.
pub moment_cases : (h : HostState) (now : ℕ) → Contains (moments_of h) now
    → ((m : MemberState) × Contains h.members m × Contains (member_moments h m) now) ⊎ ((j : JobState) × Contains h.jobs j × Contains (job_moments h j) now)
moment_cases h now there = by (in_either (flat_map (member_moments h) h.members) (flat_map (job_moments h) h.jobs) now there) where
  by : Contains (flat_map (member_moments h) h.members) now ⊎ Contains (flat_map (job_moments h) h.jobs) now
      → ((m : MemberState) × Contains h.members m × Contains (member_moments h m) now) ⊎ ((j : JobState) × Contains h.jobs j × Contains (job_moments h j) now)
  by (inl left) = inl (in_flat (member_moments h) h.members now left)
  by (inr right) = inr (in_flat (job_moments h) h.jobs now right)

pub member_quiet : (h : HostState) (m : MemberState) (now : ℕ) → IsQuiet h → Contains h.members m → Contains (member_moments h m) now → h.quiet_until ≤ now
member_quiet h m now quiet there at =
    moment_quiet h now quiet (in_front (flat_map (member_moments h) h.members) (flat_map (job_moments h) h.jobs) now (flat_has (member_moments h) h.members m now there at))

pub job_quiet : (h : HostState) (j : JobState) (now : ℕ) → IsQuiet h → Contains h.jobs j → Contains (job_moments h j) now → h.quiet_until ≤ now
job_quiet h j now quiet there at =
    moment_quiet h now quiet (in_back (flat_map (member_moments h) h.members) (flat_map (job_moments h) h.jobs) now (flat_has (job_moments h) h.jobs j now there at))

-- So it is enough to look at each member's moments and at each job's.
pub quiet_by : (h : HostState) → ((m : MemberState) (now : ℕ) → Contains h.members m → Contains (member_moments h m) now → h.quiet_until ≤ now)
    → ((j : JobState) (now : ℕ) → Contains h.jobs j → Contains (job_moments h j) now → h.quiet_until ≤ now) → IsQuiet h
quiet_by h members jobs k now there = by (moment_cases h now (got_inside (moments_of h) k now there)) where
  by : ((m : MemberState) × Contains h.members m × Contains (member_moments h m) now) ⊎ ((j : JobState) × Contains h.jobs j × Contains (job_moments h j) now) → h.quiet_until ≤ now
  by (inl m) = members m.0 now m.1 m.2
  by (inr j) = jobs j.0 now j.1 j.2

pub lowered_most : (b : Bool) (moment : ℕ) (h : HostState) → lowered b moment h ≤ h.quiet_until
lowered_most b moment h = by b where
  by : (b : Bool) → cond b (min h.quiet_until moment) h.quiet_until ≤ h.quiet_until
  by true = omega arith
  by false = refl_le h.quiet_until

pub lowered_reaches : (b : Bool) (moment : ℕ) (h : HostState) → b ≡ true → lowered b moment h ≤ moment
lowered_reaches b moment h is = by b is where
  by : (b : Bool) → b ≡ true → cond b (min h.quiet_until moment) h.quiet_until ≤ moment
  by true at = omega arith
  by false at = absurd (true_is_false (sym at))
