-- Who is signalled: a process whose kill program is set has it started in place of a term.
use Rattle.sl_due.specs.DueRecovery.{send, signal_holders, tell_to_stop}
use Rattle.sl_due.specs.Steps.{Step}
use Rattle.sl_host_state.specs.StepQuestions.{stopper_in}
use Rattle.sl_host_state.specs.KeptState.{HostState, MemberState}
use Rattle.sl_host_state.specs.MadeEffects.{with_signal, with_start}
use Rattle.sl_host_state.specs.HostStands.{Stands, Takes}
use Rattle.sl_host_law.specs.Questions.Members.{IsMemberAt, holders_in}
use Rattle.sl_trace.specs.Traces.{first_child}
use Rattle.sl_trace.specs.declared.effects.Signal.TheVariants.{Kill, Term}
use Rattle.sl_trace.specs.declared.effects.Signal.{Signal}
use Rattle.sl_trace.specs.declared.input.Input.{Input}
use Rattle.std.specs.Prelude.{List, None, Some, fold, ℕ, ◌+◌, ◌≡◌}

-- The host after each of a list in turn.
abbrev pub over : {A : Type 0} → List A → (A → HostState → HostState) → HostState → HostState
over xs f h = fold (λ g a. f a g) h xs

-- A process is told to stop.
abbrev pub telling : ℕ → HostState → HostState
telling p h =
    elim (stopper_in h p) [
      | None ↦ with_signal p Term h
      | Some program ↦ with_start (record { process = first_child + h.started; program = program; job = None; stands_for = Some p }) h
    ]

-- A process is sent this signal, or told to stop.
abbrev pub sending : ℕ → Signal → HostState → HostState
sending p Term h = telling p h
sending p Kill h = with_signal p Kill h

-- Each holder of the member is.
abbrev pub signalling : Signal → MemberState → HostState → HostState
signalling signal m h = over (holders_in h m) (λ p. sending p signal) h

-- The state follows the step.
pub record SignalsAreTaken : Type 0 where
  pub tell : (p : ℕ) (h : HostState) → Takes h (telling p h) (tell_to_stop p)
  pub sent : (p : ℕ) (s : Signal) (h : HostState) → Takes h (sending p s h) (send p s)
  pub holders : (i : Input) (h : HostState) (x : Step) (k : ℕ) (m : MemberState) (s : Signal) → IsMemberAt i h x k m → Stands i (signalling s m h) (signal_holders s m.who x)
  -- members and connections stay
  pub members : (m : MemberState) (s : Signal) (h : HostState) → (signalling s m h).members ≡ h.members
