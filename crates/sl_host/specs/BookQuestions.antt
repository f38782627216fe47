-- What is asked of a host when a command is decided, and of its books alone: no question here asks what lines say.
use Rattle.sl_host_state.specs.KeptState.{HostKept, HostState, MemberState, state_of}
use Rattle.sl_tables.specs.declared.holdings.Holder.{Holder}
use Rattle.sl_tables.specs.declared.holdings.Sought.{Sought}
use Rattle.sl_trace.specs.declared.effects.Grant.{Grant}
use Rattle.sl_trace.specs.declared.effects.Mode.{Mode}
use Rattle.sl_trace.specs.declared.effects.Spot.{Spot}
use Rattle.sl_host.specs.Books.{BooksState, host_of}
use Rattle.std.specs.List.{sum_by}
use Rattle.std.specs.Prelude.{Err, List, Option, Some, [], filter, length, ℕ, ◌-◌, ◌==◌, ◌^◌}

-- The host of these books with no member, which reads no line.
abbrev pub alone : BooksState → HostState
alone b = host_of (λ text. Err 0) [] b

-- The host that keeps this and reads no line.
abbrev pub state_in : HostKept → HostState
state_in k = state_of (λ text. Err 0) k

-- The holdings of a session on an area, of these processes, in this mode.
abbrev pub sought_on : Holder → ℕ → Spot → Option Mode → Sought
sought_on who session at mode = record { holder = who; session = Some session; spot = Some at; mode = mode }

-- The holdings of a session.
abbrev pub held_under : ℕ → List Grant → List Grant
held_under session held = filter (λ g. g.session == session) held

-- The leases of these members together, and the greatest count.
abbrev pub leases_in : List MemberState → ℕ
leases_in ms = sum_by (λ m. length m.leases) ms

abbrev pub most_counted : ℕ
most_counted = 2 ^ 64 - 1
