-- Who holds under a session.
use Rattle.sl_host_law.specs.StepParts.Signals.{over, sending}
use Rattle.sl_host_state.specs.KeptState.{HostState}
use Rattle.sl_trace.specs.Traces.{is_orphan}
use Rattle.sl_trace.specs.declared.effects.Grant.{Grant}
use Rattle.sl_trace.specs.declared.effects.Signal.{Signal}
use Rattle.sl_host.specs.Host.{HostView}
use Rattle.sl_words.specs.Orders.{rising}
use Rattle.std.specs.Prelude.{List, filter, map, not, ℕ, ◌==◌, ◌≡◌}

-- The processes that hold under it, in rising order.
abbrev pub holders_under : ℕ → List Grant → List ℕ
holders_under session held = rising (map (λ g. g.process) (filter (λ g. not (is_orphan g)) (filter (λ g. g.session == session) held)))

-- Each is sent this signal: of a member it is `signalling`.
abbrev pub signalling_all : Signal → ℕ → HostState → HostState
signalling_all signal session h = over (holders_under session h.holdings) (λ p. sending p signal) h

-- Who holds, which jobs run and which members there are stays.
abbrev pub SameButSignals : HostView → HostView → Type 0
SameButSignals old new = (new.kept.holdings ≡ old.kept.holdings) × (new.kept.jobs ≡ old.kept.jobs) × (new.kept.members ≡ old.kept.members)
