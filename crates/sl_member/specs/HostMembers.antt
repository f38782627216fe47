-- The members of a host together, and what a change of one of them makes of the list.
use Rattle.sl_area.specs.AreaSizes.{layout_of}
use Rattle.sl_host_state.specs.KeptState.{MemberState}
use Rattle.sl_host_state.specs.HostStands.{is_joining}
use Rattle.sl_lease.specs.declared.side.Side.{Side}
use Rattle.sl_member.specs.Leases.{begins_lease}
use Rattle.sl_member.specs.Members.{MemberKept, RunOf, leaving_begun, owner_in, recovery_begun}
use Rattle.sl_trace.specs.Sessions.{is_session_arg}
use Rattle.sl_trace.specs.declared.session.Begun.{Begun}
use Rattle.sl_time.specs.Times.{TimingNumbers, fail}
use Rattle.sl_trace.specs.Traces.{Submitted}
use Rattle.sl_trace.specs.declared.command.LockspaceArg.{LockspaceArg}
use Rattle.sl_watch.specs.ToldLooks.{told_all}
use Rattle.sl_words.specs.Words.{some_is}
use Rattle.std.specs.List.{AllByRecursion}
use Rattle.std.specs.Prelude.{Bool, List, None, Option, Some, cond, false, find, is_none, map, nat_le, [], ℕ, ◌&&◌, ◌+◌, ◌==◌, ◌∷◌, ◌≡◌, ◌≤◌}

-- The members of a host of this run; for how many of them there is memory in all, and for how many more leases at each of them.
pub record MembersState : Type 0 where
  pub run : RunOf
  pub members : List MemberState
  pub most : ℕ
  pub room : ℕ

-- No two of these numbers are one.
abbrev pub AreApart : List ℕ → Type 0
AreApart [] = Unit {0}
AreApart (n ∷ ns) = AllByRecursion (λ k. (n == k) ≡ false) ns × AreApart ns

-- The number of a member.
abbrev pub number_of : MemberKept → ℕ
number_of m = m.state.who.number

-- Each is of the run and has memory for so many more leases; their numbers are apart.
pub record AreMembers (run : RunOf) (room : ℕ) (ms : List MemberKept) : Type 0 where
  pub each : AllByRecursion (λ m. (m.run ≡ run) × (room ≤ m.room)) ms
  pub apart : AreApart (map number_of ms)

-- The member of this number.
abbrev pub member_with : ℕ → List MemberState → Option MemberState
member_with n ms = find (λ m. m.who.number == n) ms

-- The members with this change of the one of this number.
abbrev pub changed_member : ℕ → (MemberState → MemberState) → List MemberState → List MemberState
changed_member n f ms = map (λ s. cond (n == s.who.number) (f s) s) ms

-- Whether the call is the first of a lease of its session's.
abbrev pub begins_among : RunOf → Submitted → List MemberState → Bool
begins_among run m ms = some_is (λ s. begins_lease (layout_of run.sizes) m s.leases) (member_with m.call.session ms)

-- For whom a member's leases are kept.
abbrev pub side_with : RunOf → MemberState → Side
side_with run s = record { geometry = run.sizes; lockspace = s.who.lockspace; me = owner_in s }

-- A member whose read of all ids gave these bytes.
abbrev pub told_survey : RunOf → ℕ → ℕ → List ℕ → MemberState → MemberState
told_survey run before after bytes s = record s { watch = told_all before after (layout_of run.sizes) bytes s.watch }

-- The same members, each with memory for as many leases as before, or more.
abbrev pub AreRoomier : List MemberKept → List MemberKept → Type 0
AreRoomier [] [] = Unit {0}
AreRoomier [] (y ∷ ys) = ⊥
AreRoomier (x ∷ xs) [] = ⊥
AreRoomier (x ∷ xs) (y ∷ ys) = (y.run ≡ x.run) × (y.state ≡ x.state) × (x.room ≤ y.room) × AreRoomier xs ys

-- Whether recovery begins by time: `is_late` of a host with these times, at this reading.
abbrev pub late_by : TimingNumbers → ℕ → MemberState → Bool
late_by tm now m = elim m.renewing.recovery [ Some b ↦ false | None ↦ m.joined && nat_le (m.renewing.last + fail tm) now ]

-- How a recovery begins by time, in the step that is this one of all: its kills may come in the step itself.
abbrev pub begun_in : ℕ → ℕ → Begun
begun_in now at = record { at = at; reading = now; kills_from = at }

-- A member as the step begins: `member_begun`.
abbrev pub begun_by : TimingNumbers → ℕ → ℕ → MemberState → MemberState
begun_by tm now at m = cond (late_by tm now m) (recovery_begun (begun_in now at) m) m

abbrev pub begun_kept : ℕ → ℕ → MemberKept → MemberKept
begun_kept now at v = record v { state = begun_by v.run.timing now at v.state }

-- Whether it is joining, by this job.
abbrev pub is_joining_by : ℕ → MemberState → Bool
is_joining_by job s = is_joining s && some_is (λ j. j == job) s.who.job

-- Whether a member leaves by these words, and is not leaving yet.
abbrev pub begins_leaving : LockspaceArg → MemberState → Bool
begins_leaving a m = m.joined && is_session_arg m.who a && is_none m.leaving

-- A member after a line of these words: it leaves so, for this job.
abbrev pub left_by : LockspaceArg → Begun → ℕ → MemberState → MemberState
left_by a b job m = cond (begins_leaving a m) (leaving_begun b job m) m

abbrev pub left_kept : LockspaceArg → Begun → ℕ → MemberKept → MemberKept
left_kept a b job v = record v { state = left_by a b job v.state }
