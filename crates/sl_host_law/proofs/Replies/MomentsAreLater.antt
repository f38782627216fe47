-- None of the moments at which something is due by time is below the one that a host keeps: of all, where it is so of each member's and
-- of each job's.
use Rattle.sl_host_law.proofs.SharedFacts.PlainLists.{in_either}
use Rattle.sl_host_law.proofs.SharedFacts.QuietMoments.{job_quiet, member_quiet, quiet_by}
use Rattle.sl_host_state.specs.KeptState.{HostState, MemberState}
use Rattle.sl_host_state.specs.HostStands.{IsQuiet, job_moments, member_moments}
use Rattle.sl_host_state.specs.declared.kept_parts.JobState.{JobState}
use Rattle.sl_words.proofs.Lists.{contains_cases, contains_none}
use Rattle.sl_words.proofs.Numbers.{trans_le}
use Rattle.std.proofs.Common.{inl, inr, subst}
use Rattle.std.specs.Prelude.{Contains, List, [], ℕ, ◌++◌, ◌∷◌, ◌≡◌, ◌≤◌, ◌⊎◌}

-- Each moment of these is at or above this one.
abbrev pub AllFrom : ℕ → List ℕ → Type 0
AllFrom q ts = (t : ℕ) → Contains ts t → q ≤ t

pub one_moment : (q x t : ℕ) → q ≤ x → Contains (x ∷ []) t → q ≤ t
one_moment q x t le there = by (contains_cases x [] t there) where
  by : (x ≡ t) ⊎ Contains [] t → q ≤ t
  by (inl is) = subst (λ z. q ≤ z) is le
  by (inr none) = absurd (contains_none t none)

pub from_both : (q : ℕ) (xs ys : List ℕ) → AllFrom q xs → AllFrom q ys → AllFrom q (xs ++ ys)
from_both q xs ys first second t there = by (in_either xs ys t there) where
  by : Contains xs t ⊎ Contains ys t → q ≤ t
  by (inl at) = first t at
  by (inr at) = second t at

pub from_none : (q : ℕ) → AllFrom q []
from_none q t there = absurd (contains_none t there)

-- Those of a member and of a job of a host that is quiet.
pub member_from : (q : ℕ) (h : HostState) → q ≤ h.quiet_until → IsQuiet h → (m : MemberState) → Contains h.members m → AllFrom q (member_moments h m)
member_from q h le quiet m there t at = trans_le q h.quiet_until t le (member_quiet h m t quiet there at)

pub job_from : (q : ℕ) (h : HostState) → q ≤ h.quiet_until → IsQuiet h → (j : JobState) → Contains h.jobs j → AllFrom q (job_moments h j)
job_from q h le quiet j there t at = trans_le q h.quiet_until t le (job_quiet h j t quiet there at)

-- The host is quiet where those of each member and of each job are later.
pub quiet_where : (h : HostState) → ((m : MemberState) → Contains h.members m → AllFrom h.quiet_until (member_moments h m)) → ((j : JobState) → Contains h.jobs j → AllFrom h.quiet_until (job_moments h j))
    → IsQuiet h
quiet_where h members jobs = quiet_by h (λ m t there at. members m there t at) (λ j t there at. jobs j there t at)
