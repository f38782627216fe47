-- What a pass leaves of a host's tables: holdings as they are, and of jobs, members and leases no more than there were. No session is born, and no line
-- takes a number.
pub use Rattle.sl_host.specs.BookQuestions.{leases_in}
use Rattle.sl_host_state.specs.KeptState.{HostKept, MemberState}
use Rattle.sl_host_work.specs.KilledMembers.{count_under}
use Rattle.sl_trace.specs.declared.effects.Grant.{Grant}
use Rattle.sl_member.specs.HostMembers.{member_with}
use Rattle.std.specs.Option.{option_map_or}
use Rattle.std.specs.Prelude.{List, [], length, ℕ, ◌+◌, ◌∷◌, ◌≡◌, ◌≤◌}

pub record IsNoMore (old new : HostKept) : Type 0 where
  pub holdings : new.holdings ≡ old.holdings
  pub jobs : length new.jobs ≤ length old.jobs
  pub members : length new.members ≤ length old.members
  pub leases : leases_in new.members ≤ leases_in old.members
  pub born : new.born ≡ old.born
  pub lines : new.next_job ≡ old.next_job

-- How many hold under sessions of these numbers.
abbrev pub holders_among : List ℕ → List Grant → ℕ
holders_among [] held = 0
holders_among (n ∷ ns) held = count_under held n + holders_among ns held

-- How many leases the member of a number has, and those of these numbers together.
abbrev pub leases_at : ℕ → List MemberState → ℕ
leases_at n ms = option_map_or (λ m. length m.leases) (member_with n ms) 0

abbrev pub leases_among : List ℕ → List MemberState → ℕ
leases_among [] ms = 0
leases_among (n ∷ ns) ms = leases_at n ms + leases_among ns ms

-- Each number has as many as before.
abbrev pub SameLeases : List MemberState → List MemberState → Type 0
SameLeases old new = (n : ℕ) → leases_at n new ≡ leases_at n old
