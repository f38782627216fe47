-- A source and a sink in memory.
use Rattle.sl_io.specs.Planned.{Planned, after_call, fails_next, next_call, with_fault}
use Rattle.std.specs.Prelude.{Bool, List, if◌then◌else◌, drop, length, max, min, not, slice_get, take, unwrap_or, ℕ, ◌&&◌, ◌++◌, ◌-◌, ◌==◌, ◌^◌, ◌||◌}

-- The most bytes that the call with this number gives or takes: the lengths are those of the calls in order, later calls go by the
-- last one, and without any there is no limit. It is at least 1.
abbrev pub most_of : List ℕ → ℕ → ℕ
most_of pieces call = max 1 (unwrap_or (slice_get pieces (min call (length pieces) - 1)) (2 ^ 64 - 1))

-- The bytes left, the lengths of the pieces, and the calls.
pub record SourceState : Type 0 where
  pub left : List ℕ
  pub pieces : List ℕ
  pub calls : Planned

-- How many bytes the next read gives, into a buffer of this length.
abbrev pub read_len : ℕ → SourceState → ℕ
read_len room s = min (min room (length s.left)) (most_of s.pieces (next_call s.calls))

-- The source after a read into a buffer of this length.
abbrev pub after_read : ℕ → SourceState → SourceState
after_read room s = record {
  left = if fails_next s.calls then s.left else drop (read_len room s) s.left;
  pieces = s.pieces;
  calls = after_call s.calls;
}

-- The bytes taken, how many more there is room for, the lengths of the pieces, and the calls.
pub record SinkState : Type 0 where
  pub taken : List ℕ
  pub room : ℕ
  pub pieces : List ℕ
  pub calls : Planned

-- How many bytes of a piece of this length the next write takes, if it doesn't fail.
abbrev pub write_len : ℕ → SinkState → ℕ
write_len len s = min (min len s.room) (most_of s.pieces (next_call s.calls))

-- Whether a piece of this length finds no room.
abbrev pub is_past_room : ℕ → SinkState → Bool
is_past_room len s = not (len == 0) && s.room == 0

-- Whether the next write fails: it was to fail, or finds no room.
abbrev pub write_fails : ℕ → SinkState → Bool
write_fails len s = fails_next s.calls || is_past_room len s

-- The sink after a write of this piece.
abbrev pub after_write : List ℕ → SinkState → SinkState
after_write piece s = if fails_next s.calls then record s { calls = after_call s.calls }
    else if is_past_room (length piece) s then record s { calls = with_fault (after_call s.calls) }
    else record {
      taken = s.taken ++ take (write_len (length piece) s) piece;
      room = s.room - write_len (length piece) s;
      pieces = s.pieces;
      calls = after_call s.calls;
    }
