-- What a scripted daemon keeps, and for which traces it stands. It keeps what a world asks: which calls and starts have no answer, and which
-- numbers come next. What it does is told by its script, of which nothing is said.
use Rattle.sl_world_state.specs.declared.daemon.Most.{Most}
use Rattle.sl_script.specs.MadeSteps.{most_made}
use Rattle.sl_script.specs.declared.answered_inputs.Heard.TheVariants.{Call as HeardCall, Other, Start as HeardStart}
use Rattle.sl_script.specs.declared.answered_inputs.Heard.{Heard}
use Rattle.sl_script.specs.declared.answered_inputs.SeenChild.{SeenChild}
use Rattle.sl_trace.specs.Traces.{Child, Setting, Trace, children, first_child, next_call, outstanding}
use Rattle.sl_trace.specs.declared.effects.Call.{Call}
use Rattle.sl_trace.specs.declared.effects.Effects.{Effects}
use Rattle.sl_trace.specs.declared.effects.Start.{Start}
use Rattle.sl_trace.specs.declared.effects.Op.TheVariants.{ReadSectors, WriteRecord}
use Rattle.sl_trace.specs.declared.effects.Op.{Op}
use Rattle.sl_trace.specs.declared.input.Answer.TheVariants.{Failed, Read, Written}
use Rattle.sl_trace.specs.declared.input.Answer.{Answer}
use Rattle.sl_trace.specs.declared.input.Input.TheVariants.{Answer as Told, Spawned}
use Rattle.sl_trace.specs.declared.input.Input.{Input}
use Rattle.sl_words.specs.Words.{some_is}
use Rattle.std.specs.List.{list_any}
use Rattle.std.specs.Prelude.{Bool, List, false, filter, find, is_some, length, map, not, reverse, true, ℕ, ◌&&◌, ◌*◌, ◌++◌, ◌+◌, ◌==◌, ◌||◌, ◌≡◌}

-- ---- what it keeps

pub record ScriptState : Type 0 where
  -- the bytes of a sector
  pub sector : ℕ
  -- the number of the next call
  pub next : ℕ
  -- the calls that have no answer, the oldest first
  pub open_calls : List Call
  pub children : List SeenChild

-- ---- what it hears

-- What an input answers.
abbrev pub heard_in : Input → Heard
heard_in (Told number answer) = HeardCall number
heard_in (Spawned process ok) = HeardStart process
heard_in i = Other

-- Whether the call has an answer then.
abbrev pub is_heard : Heard → Call → Bool
is_heard (HeardCall number) c = c.number == number
is_heard h c = false

-- A child then.
abbrev pub seen_after : Heard → SeenChild → SeenChild
seen_after (HeardStart process) s = record s { answered = process == s.process || s.answered }
seen_after h s = s

-- ---- a step

abbrev pub new_seen : Start → SeenChild
new_seen s = record { process = s.process; answered = false }

-- What it keeps after a step that heard this and made these.
abbrev pub after_step : Heard → Effects → ScriptState → ScriptState
after_step h fx s =
    record {
      sector = s.sector;
      next = s.next + length fx.calls;
      open_calls = filter (λ c. not (is_heard h c)) s.open_calls ++ fx.calls;
      children = map (seen_after h) s.children ++ map new_seen fx.starts;
    }

-- ---- for which traces it stands

abbrev pub seen_of : Child → SeenChild
seen_of k = record { process = k.process; answered = is_some k.answer }

pub record Follows (s : ScriptState) (st : Setting) (es : Trace) : Type 0 where
  pub sector : s.sector ≡ st.layout.sector
  pub next : s.next ≡ next_call st es
  pub open_calls : map (λ m. m.call) (outstanding es) ≡ reverse s.open_calls
  pub children : map seen_of (children es) ≡ s.children

-- The number of its next child.
abbrev pub child_next : ScriptState → ℕ
child_next s = first_child + length s.children

-- ---- what may come to it

-- Whether the op may have the answer, at sectors of this size.
abbrev pub is_due : ℕ → Answer → Op → Bool
is_due sector (Read bytes) (ReadSectors n) = length bytes == n * sector
is_due sector (Read bytes) (WriteRecord r) = false
is_due sector Written (ReadSectors n) = false
is_due sector Written (WriteRecord r) = true
is_due sector Failed op = true

-- Whether the answer may come to one of these calls.
abbrev pub are_open : ℕ → ℕ → Answer → List Call → Bool
are_open sector number answer cs = list_any (λ c. c.number == number && is_due sector answer c.op) cs

-- Whether the start of a child of this number waits for its answer.
abbrev pub starts_wait : ℕ → List SeenChild → Bool
starts_wait process ks = some_is (λ k. not k.answered) (find (λ k. k.process == process) ks)

-- How much a step makes at most.
abbrev pub most_of : Most
most_of =
    record { ends = most_made; signals = most_made; moves = most_made; grants = most_made; starts = most_made; replies = most_made; calls = most_made }
