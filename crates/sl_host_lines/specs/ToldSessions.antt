-- What is told of sessions and of what they have seen.
use Rattle.sl_host_state.specs.KeptState.{MemberState}
use Rattle.sl_trace.specs.declared.reply.SessionOf.{SessionOf}
use Rattle.sl_trace.specs.declared.reply.StateOf.{StateOf}
use Rattle.sl_watch.specs.Summaries.{bare, state_by}
use Rattle.sl_watch.specs.Watches.{kept_at}
use Rattle.std.specs.List.{range_with_len}
use Rattle.std.specs.Prelude.{List, filter, map, ℕ}

-- What an id looks like to a member at a reading.
abbrev pub state_seen : ℕ → MemberState → ℕ → StateOf
state_seen now m id = record { id = id; state = state_by m.watch.timing (bare (kept_at m.watch id)).run now }

-- So of the first ids.
abbrev pub states_in : ℕ → MemberState → ℕ → List StateOf
states_in now m ids = map (state_seen now m) (range_with_len 1 ids)

-- A session, as `status` tells it.
abbrev pub session_in : MemberState → SessionOf
session_in m = record { lockspace = m.who.lockspace; id = m.who.id; generation = m.known.generation }

-- The joined ones of these.
abbrev pub sessions_in : List MemberState → List SessionOf
sessions_in ms = map session_in (filter (λ m. m.joined) ms)
