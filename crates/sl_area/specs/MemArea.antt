-- A disk in memory.
use Rattle.sl_area.specs.Sectors.{put_at}
use Rattle.sl_io.specs.Planned.{Planned, after_call, fails_next, with_fault}
use Rattle.std.specs.Prelude.{Bool, List, if◌then◌else◌, length, nat_lt, ℕ, ◌+◌, ◌||◌}

-- What the disk has, and the calls.
pub record AreaState : Type 0 where
  pub content : List ℕ
  pub calls : Planned

-- Whether a call on so many bytes from an offset on reaches past the room.
abbrev pub is_past : ℕ → ℕ → AreaState → Bool
is_past offset len a = nat_lt (length a.content) (offset + len)

-- Whether the next call fails: it was to fail, or reaches past the room.
abbrev pub fails_at : ℕ → ℕ → AreaState → Bool
fails_at offset len a = fails_next a.calls || is_past offset len a

-- The calls after one more.
abbrev pub calls_after : ℕ → ℕ → AreaState → Planned
calls_after offset len a = if fails_next a.calls then after_call a.calls
    else if is_past offset len a then with_fault (after_call a.calls)
    else after_call a.calls

-- The disk after a read.
abbrev pub after_read : ℕ → ℕ → AreaState → AreaState
after_read offset len a = record { content = a.content; calls = calls_after offset len a }

-- The disk after a write of this sector.
abbrev pub after_write : ℕ → List ℕ → AreaState → AreaState
after_write offset sector a = record {
  content = if fails_at offset (length sector) a then a.content else put_at offset sector a.content;
  calls = calls_after offset (length sector) a;
}
