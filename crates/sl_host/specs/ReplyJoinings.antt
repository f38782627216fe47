-- What a reply makes of the joinings of its job.
use Rattle.sl_host_state.specs.KeptState.{MemberState}
use Rattle.sl_host_state.specs.declared.kept_parts.OpenCall.{OpenCall}
use Rattle.sl_member.specs.HostMembers.{is_joining_by}
use Rattle.sl_time.specs.Times.{TimingNumbers, fail}
use Rattle.sl_words.specs.Words.{some_is}
use Rattle.std.specs.List.{AllByRecursion, list_any}
use Rattle.std.specs.Prelude.{Bool, List, [], cond, filter, is_none, map, true, ℕ, ◌&&◌, ◌+◌, ◌==◌, ◌∷◌, ◌≡◌, ◌≤◌}

-- Whether a write of the session is among these calls.
abbrev pub writes_in : List OpenCall → ℕ → Bool
writes_in cs number = list_any (λ c. c.session == number && is_none c.sectors) cs

-- What is left of a joining that is refused.
abbrev pub refusal_of : List OpenCall → MemberState → List MemberState
refusal_of cs s = cond (writes_in cs s.who.number) (record s { refused = true } ∷ []) []

-- What is left of a member where the joinings by a job are refused, and where that of a number is.
abbrev pub refused_by : List OpenCall → ℕ → MemberState → List MemberState
refused_by cs job s = cond (is_joining_by job s) (refusal_of cs s) (s ∷ [])

abbrev pub refused_at : List OpenCall → ℕ → MemberState → List MemberState
refused_at cs number s = cond (number == s.who.number) (refusal_of cs s) (s ∷ [])

-- What is left of a member where the joinings by a job are done.
abbrev pub joined_by : ℕ → MemberState → List MemberState
joined_by job s = cond (is_joining_by job s) (record s { joined = true } ∷ []) (s ∷ [])

-- The members of the job have claimed a generation.
abbrev pub HasClaims : ℕ → List MemberState → Type 0
HasClaims job ms = AllByRecursion (λ s. some_is (λ j. j == job) s.who.job ≡ true → 1 ≤ s.known.generation) ms

-- The moments of recovery of the members of a job.
abbrev pub moments_by : TimingNumbers → ℕ → List MemberState → List ℕ
moments_by tm job ms = map (λ s. s.renewing.last + fail tm) (filter (λ s. some_is (λ j. j == job) s.who.job) ms)
