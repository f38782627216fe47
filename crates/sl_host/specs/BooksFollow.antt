-- What a host does to its books is what the state functions say.
use Rattle.std.specs.Prelude.{Bool, map, List, Result, filter, not, ℕ, ◌≡◌}
use Rattle.sl_host.specs.Books.{books_calling, books_counting, books_exiting, books_numbering, books_spawning, BooksState, books_ending, books_granting, books_moving, books_signalling, books_starting, host_of}
use Rattle.sl_trace.specs.Traces.{Submitted}
use Rattle.sl_host_state.specs.MadeEffects.{calling, member_calling, is_ended_by_move, with_end, with_grant, with_move, with_signal, with_start}
use Rattle.sl_host_state.specs.HeardInputs.{counted, heard_exit, heard_number, heard_start}
use Rattle.sl_area.specs.AreaSizes.{layout_of}
use Rattle.sl_host_state.specs.KeptState.{MemberState}
use Rattle.sl_trace.specs.declared.command.Command.{Command}
use Rattle.sl_trace.specs.declared.effects.End.{End}
use Rattle.sl_trace.specs.declared.effects.Grant.{Grant}
use Rattle.sl_trace.specs.declared.effects.Move.{Move}
use Rattle.sl_trace.specs.declared.effects.Sent.{Sent}
use Rattle.sl_trace.specs.declared.effects.Start.{Start}

-- Of a host that reads lines so, with these members and books.
pub record BooksFollow (read : List ℕ → Result Command ℕ) (ms : List MemberState) (b : BooksState) : Type 0 where
  pub ended : (e : End) → host_of read ms (books_ending e b) ≡ with_end e (host_of read ms b)
  pub granted : (g : Grant) → host_of read ms (books_granting g b) ≡ with_grant g (host_of read ms b)
  pub signalled : (s : Sent) → host_of read ms (books_signalling s b) ≡ with_signal s.process s.signal (host_of read ms b)
  pub started : (s : Start) → host_of read ms (books_starting s b) ≡ with_start s (host_of read ms b)
  -- a call is heard by the member that makes it
  pub called : (m : Submitted) → host_of read (map (member_calling (layout_of b.config.sizes) m) ms) (books_calling m b) ≡ calling m (host_of read ms b)
  -- an exit and a start's answer
  pub exited : (p : ℕ) → host_of read ms (books_exiting p b) ≡ heard_exit p (host_of read ms b)
  pub spawned : (p : ℕ) (ok : Bool) → host_of read ms (books_spawning p ok b) ≡ heard_start p ok (host_of read ms b)
  -- a line that is no command, and the count of a step
  pub numbered : host_of read ms (books_numbering b) ≡ heard_number (host_of read ms b)
  pub counted : (now : ℕ) → host_of read ms (books_counting now b) ≡ counted now (host_of read ms b)
  -- a move takes out the members that it ends
  pub moved : (m : Move) → host_of read (filter (λ s. not (is_ended_by_move m s)) ms) (books_moving m b) ≡ with_move m (host_of read ms b)

abbrev pub BooksFollowStates : Type 0
BooksFollowStates = (read : List ℕ → Result Command ℕ) (ms : List MemberState) (b : BooksState) → BooksFollow read ms b
