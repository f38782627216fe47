-- A step in progress: what came before, and the effects so far. What has happened up to here is again a trace, with the step as
-- its newest entry, so each part of the step asks that one trace. Before the input is looked at the step counts as a wake.
use Rattle.sl_trace.specs.declared.session.Session.{Session}
use Rattle.sl_trace.specs.Traces.{Setting, Trace, next_call, no_effects}
use Rattle.sl_trace.specs.declared.effects.Effects.{Effects}
use Rattle.sl_trace.specs.declared.effects.End.{End}
use Rattle.sl_trace.specs.declared.effects.Grant.{Grant}
use Rattle.sl_trace.specs.declared.effects.Move.{Move}
use Rattle.sl_trace.specs.declared.effects.Op.{Op}
use Rattle.sl_trace.specs.declared.effects.Purpose.{Purpose}
use Rattle.sl_trace.specs.declared.effects.Signal.{Signal}
use Rattle.sl_trace.specs.declared.effects.Start.{Start}
use Rattle.sl_trace.specs.declared.input.Input.TheVariants.{Wake}
use Rattle.sl_trace.specs.declared.input.Input.{Input}
use Rattle.sl_trace.specs.declared.reply.Reply.{Reply}
use Rattle.std.specs.Prelude.{Bool, List, None, Option, Some, false, fold, true, [], ℕ, ◌++◌, ◌∷◌}

-- A step in progress.
pub record Step : Type 0 where
  pub setting : Setting
  pub past : Trace
  pub reading : ℕ
  pub input : Input
  pub effects : Effects

-- The trace up to here.
abbrev pub seen : Step → Trace
seen x = record { reading = x.reading; input = x.input; effects = x.effects } ∷ x.past

-- Before the input is looked at it counts as a wake.
abbrev pub begin_step : Setting → Trace → ℕ → Step
begin_step st past reading = record { setting = st; past = past; reading = reading; input = Wake; effects = no_effects }

-- From here on the input is seen.
abbrev pub with_input : Input → Step → Step
with_input i x = record x { input = i }

-- The step with these effects.
abbrev pub with_effects : Step → Effects → Step
with_effects x fx = record x { effects = fx }

-- One more end.
abbrev pub add_end : End → Step → Step
add_end e x = let fx : Effects = x.effects in with_effects x (record fx { ends = fx.ends ++ e ∷ [] })

-- One more signal.
abbrev pub add_signal : ℕ → Signal → Step → Step
add_signal p s x = let fx : Effects = x.effects in with_effects x (record fx { signals = fx.signals ++ record { process = p; signal = s } ∷ [] })

-- One more move of a connection.
abbrev pub add_move : Move → Step → Step
add_move m x = let fx : Effects = x.effects in with_effects x (record fx { moves = fx.moves ++ m ∷ [] })

-- One more grant.
abbrev pub add_grant : Grant → Step → Step
add_grant g x = let fx : Effects = x.effects in with_effects x (record fx { grants = fx.grants ++ g ∷ [] })

-- One more start.
abbrev pub add_start : Start → Step → Step
add_start s x = let fx : Effects = x.effects in with_effects x (record fx { starts = fx.starts ++ s ∷ [] })

-- One more reply.
abbrev pub add_reply : ℕ → Reply → Step → Step
add_reply job r x = let fx : Effects = x.effects in with_effects x (record fx { replies = fx.replies ++ record { job = job; reply = r } ∷ [] })

-- One more call, with the next number, of the session with this number.
abbrev pub add_call_of : ℕ → List ℕ → Purpose → ℕ → Op → Step → Step
add_call_of session path purpose offset op x =
    let fx : Effects = x.effects in
    with_effects x (record fx {
      calls = fx.calls
          ++ record { number = next_call x.setting (seen x); session = session; purpose = purpose; path = path; offset = offset; op = op } ∷ [];
    })

-- One more call of a session.
abbrev pub add_call_at : Session → List ℕ → Purpose → ℕ → Op → Step → Step
add_call_at s path purpose offset op x = add_call_of s.number path purpose offset op x

-- One more call on the disk of the session's lockspace.
abbrev pub add_call : Session → Purpose → ℕ → Op → Step → Step
add_call s purpose offset op x = add_call_at s s.path purpose offset op x

-- For each of a list in turn.
abbrev pub for_each : {A : Type 0} → List A → (A → Step → Step) → Step → Step
for_each xs f x = fold (λ y a. f a y) x xs

-- Where the test holds.
abbrev pub when : Bool → (Step → Step) → Step → Step
when b f x = elim b [ true ↦ f x | false ↦ x ]

-- Where there is a value.
abbrev pub with_some : {A : Type 0} → Option A → (A → Step → Step) → Step → Step
with_some None f x = x
with_some (Some a) f x = f a x
