-- What replies list, and what there must be memory for.
use Rattle.sl_world_state.specs.declared.daemon.Most.{Most}
use Rattle.sl_trace.specs.declared.effects.Effects.{Effects}
use Rattle.sl_trace.specs.declared.effects.JobReply.{JobReply}
use Rattle.sl_trace.specs.declared.reply.Reply.TheVariants.{Hosts, Sessions}
use Rattle.sl_trace.specs.declared.reply.Reply.{Reply}
use Rattle.sl_trace.specs.declared.reply.SessionOf.{SessionOf}
use Rattle.sl_trace.specs.declared.reply.StateOf.{StateOf}
use Rattle.std.specs.List.{sum_by}
use Rattle.std.specs.Prelude.{All, List, length, min, [], ℕ, ◌+◌, ◌≤◌}

-- The states that a reply lists.
abbrev pub states_in : Reply → List StateOf
states_in (Hosts states) = states
states_in reply = []

-- The sessions that it lists.
abbrev pub sessions_in : Reply → List SessionOf
sessions_in (Sessions sessions) = sessions
sessions_in reply = []

-- How many lists with an element it has: one or none.
abbrev pub lists_in : Reply → ℕ
lists_in r = min 1 (length (states_in r) + length (sessions_in r))

-- How many lists replies have.
abbrev pub lists_of : List JobReply → ℕ
lists_of replies = sum_by (λ r. lists_in r.reply) replies

-- What a reply lists is at most so long.
pub record IsShort (longest : ℕ) (r : JobReply) : Type 0 where
  pub states : length (states_in r.reply) ≤ longest
  pub sessions : length (sessions_in r.reply) ≤ longest

-- One of these replies has a list at most, and it is at most so long.
pub record AreShort (longest : ℕ) (replies : List JobReply) : Type 0 where
  pub one : lists_of replies ≤ 1
  pub each : All (IsShort longest) replies

-- A step did no more than was said.
pub record AreWithin (m : Most) (longest : ℕ) (fx : Effects) : Type 0 where
  pub ends : length fx.ends ≤ m.ends
  pub signals : length fx.signals ≤ m.signals
  pub moves : length fx.moves ≤ m.moves
  pub grants : length fx.grants ≤ m.grants
  pub starts : length fx.starts ≤ m.starts
  pub replies : length fx.replies ≤ m.replies
  pub calls : length fx.calls ≤ m.calls
  pub lists : AreShort longest fx.replies
