-- The states of a pair that a log gives: what happens at a step, so far as the state lets it.
use Rattle.sl_ballot_law.specs.PairLogs.Logs.{Log, current_session}
use Rattle.sl_ballot_law.specs.Pairs.State.{State, Stored, current}
use Rattle.sl_ballot_law.specs.Pairs.Steps.{after_beginning, after_drop, after_failure, after_landing, after_look, after_ok, after_submission, after_tearing, first_state}
use Rattle.std.specs.Prelude.{Bool, None, Option, Some, false, if◌then◌else◌, nat_lt, not, suc, zero, ℕ, ◌&&◌, ◌==◌}

-- Whether this is the step.
abbrev pub is_at : ℕ → Option ℕ → Bool
is_at n None = false
is_at n (Some u) = u == n

-- The newest write lands at this step.
abbrev pub lands_at : Log → ℕ → State → Bool
lands_at g n w = w.flying && is_at n (g.landed w.last)

-- .. is answered, ok or failed: ok only what has landed whole.
abbrev pub oks_at : Log → ℕ → State → Bool
oks_at g n w = w.waits && is_at n (g.answered w.last) && g.done w.last && w.landed

abbrev pub fails_at : Log → ℕ → State → Bool
fails_at g n w = w.waits && is_at n (g.answered w.last) && not (g.done w.last)

-- What the session is shown by an answer at this step, where none of its writes is in flight.
abbrev pub shown_block : Log → ℕ → ℕ → State → Option Stored
shown_block g n session w =
    elim (g.looks session n) [ None ↦ None | Some k ↦ if not w.waits && not w.flying then current w else None ]

-- A landing.
abbrev pub after_arrival : Log → State → State
after_arrival g w = if g.whole w.last then after_landing w else after_tearing w

-- An answer to a read.
abbrev pub after_read : Log → ℕ → ℕ → State → State
after_read g n session w = elim (shown_block g n session w) [ Some s ↦ after_look s.turn w | None ↦ if g.joins n && w.flying then after_drop w else w ]

-- The first half of a step: a landing, or an answer. Where a later session joins, what is in flight never lands.
abbrev pub first_half : Log → ℕ → ℕ → State → State
first_half g n session w =
    if lands_at g n w then after_arrival g w
    else (if oks_at g n w then after_ok w
    else (if fails_at g n w then after_failure w
    else after_read g n session w))

-- The second: a session joins, or a block is submitted.
abbrev pub second_half : Log → ℕ → State → State
second_half g n w =
    if g.joins n then (if w.flying then w else after_beginning w)
    else (if g.writes n && w.shown && not w.waits && nat_lt w.last n then after_submission n w else w)

-- The state after a step, and the one between its halves.
abbrev pub state_of : Log → ℕ → State
state_of g zero = first_state
state_of g (suc t) = second_half g (suc t) (first_half g (suc t) (current_session g t) (state_of g t))

abbrev pub between_of : Log → ℕ → State
between_of g t = first_half g (suc t) (current_session g t) (state_of g t)
