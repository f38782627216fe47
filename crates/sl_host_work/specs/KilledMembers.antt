-- Who is killed, by place of a member.
use Rattle.sl_host_law.specs.StepParts.Recoveries.{killing}
use Rattle.sl_host_state.specs.StepQuestions.{is_kill_due_in}
use Rattle.sl_host_state.specs.KeptState.{HostKept, HostState, MemberState, state_of}
use Rattle.sl_host_work.specs.Holders.{holders_under}
use Rattle.sl_trace.specs.declared.effects.Grant.{Grant}
use Rattle.sl_words.specs.Words.{choose}
use Rattle.std.specs.Prelude.{Bool, Err, List, None, Option, Some, [], length, slice_get, ℕ, ◌&&◌, ◌+◌, ◌||◌, ◌∷◌}

-- The state of a host that reads no line.
abbrev pub unread : HostKept → HostState
unread k = state_of (λ text. Err 0) k

-- Whether kills are due to the holders of the member.
abbrev pub is_killed : HostState → MemberState → Bool
is_killed h m = m.joined && (is_kill_due_in h m.renewing.recovery || is_kill_due_in h m.leaving)

-- The session of such a member.
abbrev pub killed_of : HostState → Option MemberState → Option ℕ
killed_of h None = None
killed_of h (Some m) = choose (is_killed h m) m.who.number

-- The holders of a member are killed, where it is due.
abbrev pub killing_of : Option MemberState → HostState → HostState
killing_of None h = h
killing_of (Some m) h = killing m h

abbrev pub killing_at : ℕ → HostState → HostState
killing_at k h = killing_of (slice_get h.members k) h

-- How many hold under a session, under that of a member, and under those of all of these.
abbrev pub count_under : List Grant → ℕ → ℕ
count_under held session = length (holders_under session held)

abbrev pub count_of : List Grant → Option MemberState → ℕ
count_of held None = 0
count_of held (Some m) = count_under held m.who.number

abbrev pub holders_at : ℕ → HostKept → ℕ
holders_at place k = count_of k.holdings (slice_get k.members place)

abbrev pub holders_of_all : List MemberState → List Grant → ℕ
holders_of_all [] held = 0
holders_of_all (m ∷ ms) held = count_under held m.who.number + holders_of_all ms held
