-- How the questions to a trace change as it grows.
use Rattle.sl_trace.specs.Traces.{IsTrace, Replied, Setting, Trace, new_call, no_effects, reply_to, submitted}
use Rattle.sl_trace.specs.declared.effects.Call.{Call}
use Rattle.sl_trace.specs.declared.effects.Effects.{Effects}
use Rattle.sl_trace.specs.declared.effects.Entry.{Entry}
use Rattle.sl_trace.specs.declared.input.Input.TheVariants.{Wake}
use Rattle.std.specs.Prelude.{Some, length, [], ℕ, ◌++◌, ◌∷◌, ◌≡◌}

-- The entry with one more call at its end.
abbrev pub with_call : Call → Entry → Entry
with_call c e = let fx : Effects = e.effects in record e { effects = record fx { calls = fx.calls ++ c ∷ [] } }

-- One more call in the newest entry is one more call at the head of all.
abbrev pub CallsGrow : Type 0
CallsGrow = (es : Trace) (e : Entry) (c : Call) → submitted (with_call c e ∷ es) ≡ new_call (length es) e.reading c ∷ submitted (e ∷ es)

-- An input that answers nothing leaves all calls as they were.
abbrev pub CallsStay : Type 0
CallsStay = (es : Trace) (now : ℕ) → submitted (record { reading = now; input = Wake; effects = no_effects } ∷ es) ≡ submitted es

-- A reply stays.
abbrev pub RepliesStay : Type 0
RepliesStay = (es : Trace) (e : Entry) (job : ℕ) (r : Replied) → reply_to es job ≡ Some r → reply_to (e ∷ es) job ≡ Some r

-- What is said of each entry of a trace is said of each of its fronts; of a relation between a trace and its next entry.
abbrev pub TracesHaveFronts : Type 0
TracesHaveFronts = (st : Setting) (later es : Trace) → IsTrace st (later ++ es) → IsTrace st es
