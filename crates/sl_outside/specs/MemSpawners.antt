-- A spawner in memory: its children exit and its faults come as planned.
use Rattle.sl_io.specs.FaultCounts.{one_more}
use Rattle.sl_io.specs.Planned.{Planned, after_call, fails_next, with_fault}
use Rattle.sl_outside.specs.declared.act.Act.TheVariants.{Signalled}
use Rattle.sl_outside.specs.declared.act.Act.{Act}
use Rattle.sl_outside.specs.declared.mem_children.MemChild.{MemChild}
use Rattle.sl_words.specs.RoomyLists.{Roomy}
use Rattle.sl_trace.specs.declared.effects.Signal.TheVariants.{Kill, Term}
use Rattle.sl_trace.specs.declared.effects.Signal.{Signal}
use Rattle.std.specs.List.{position, remove}
use Rattle.std.specs.Option.{ForSome}
use Rattle.std.specs.Prelude.{Bool, List, None, Option, Some, false, if◌then◌else◌, length, map, min, nat_le, not, option_map, slice_get, slice_set, true, unwrap_or, [], ℕ, ◌+◌, ◌++◌, ◌-◌, ◌==◌, ◌^◌, ◌∷◌, ◌≡◌}

-- The process numbers of children.
abbrev pub numbers : Roomy MemChild → List ℕ
numbers cs = map (λ (c : MemChild). c.process) cs.items

-- Whether a child has exited by the poll of this number.
abbrev pub has_ended : ℕ → MemChild → Bool
has_ended poll c = nat_le c.ends poll

-- Whether a child has this number.
abbrev pub has_number : ℕ → MemChild → Bool
has_number process c = c.process == process

-- Where the first child stands that has exited.
abbrev pub first_ended : ℕ → Roomy MemChild → Option ℕ
first_ended poll cs = position (has_ended poll) cs.items

-- The number of the child at a place.
abbrev pub process_at : Option ℕ → Roomy MemChild → Option ℕ
process_at None cs = None
process_at (Some at) cs = option_map (λ (c : MemChild). c.process) (slice_get cs.items at)

-- The children without the one at a place, and its room back.
abbrev pub without : Option ℕ → Roomy MemChild → Roomy MemChild
without None cs = cs
without (Some at) cs = record { items = remove cs.items at; room = cs.room + 1 }

-- The children with the one at a place ended: it has exited by any poll.
abbrev pub ended_at : Option ℕ → Roomy MemChild → Roomy MemChild
ended_at None cs = cs
ended_at (Some at) cs = record { items = with_end (slice_get cs.items at) at cs.items; room = cs.room } where
  with_end : Option MemChild → ℕ → List MemChild → List MemChild
  with_end None at cs = cs
  with_end (Some c) at cs = slice_set cs at (record { process = c.process; ends = 0 })

-- The first of this number, ended.
abbrev pub ended : ℕ → Roomy MemChild → Roomy MemChild
ended process cs = ended_at (position (has_number process) cs.items) cs

-- The acts that are told.
abbrev pub told : Option (Roomy Act) → Option (List Act)
told acts = option_map (λ (r : Roomy Act). r.items) acts

-- The acts after one more: none any longer where there was no room for it.
abbrev pub noted : Act → Option (Roomy Act) → Option (Roomy Act)
noted act None = None
noted act (Some r) = if r.room == 0 then None else Some (record { items = r.items ++ act ∷ []; room = r.room - 1 })

-- Lives by the number of the start, whether a term does nothing, the starts, how many polls there were, the children that run, and the acts
-- with room for more.
pub record SpawnerState : Type 0 where
  pub lives : List ℕ
  pub deaf : Bool
  pub starts : Planned
  pub polls : ℕ
  pub children : Roomy MemChild
  pub acts : Option (Roomy Act)

-- After how many polls the child of this start exits by itself: the lives are those of the starts in order, later starts go by the last
-- one, and without any none does.
abbrev pub life_of : List ℕ → ℕ → ℕ
life_of lives start = unwrap_or (slice_get lives (min start (length lives) - 1)) (2 ^ 64 - 1)

-- Whether the next start fails: it was to fail.
abbrev pub start_fails : SpawnerState → Bool
start_fails s = fails_next s.starts

-- The spawner after a start, with nothing noted.
abbrev pub after_start : SpawnerState → SpawnerState
after_start s = record s { starts = after_call s.starts }

-- A child that lives for so many polls more.
abbrev pub child_of : ℕ → ℕ → SpawnerState → MemChild
child_of process life s = record { process = process; ends = min (s.polls + life) (2 ^ 64 - 1) }

-- The spawner after a child was taken in, or turned away.
abbrev pub after_add : ℕ → ℕ → SpawnerState → SpawnerState
after_add process life s = if s.children.room == 0 then record s { starts = with_fault s.starts }
    else record s { children = record { items = s.children.items ++ child_of process life s ∷ []; room = s.children.room - 1 } }

-- Whether the signal ends a child.
abbrev pub ends_child : Bool → Signal → Bool
ends_child deaf Kill = true
ends_child deaf Term = not deaf

abbrev pub after_signal : ℕ → Signal → SpawnerState → SpawnerState
after_signal process signal s = record s { children = if ends_child s.deaf signal then ended process s.children else s.children; acts = noted (Signalled process signal) s.acts }

-- What the next poll tells, and the spawner after it.
abbrev pub exited : SpawnerState → Option ℕ
exited s = process_at (first_ended (one_more s.polls) s.children) s.children

abbrev pub after_poll : SpawnerState → SpawnerState
after_poll s = record s { polls = one_more s.polls; children = without (first_ended (one_more s.polls) s.children) s.children }

-- No child was taken in, no fault counted, and nothing was asked for.
pub record IsFresh (s : SpawnerState) : Type 0 where
  pub faults : s.starts.faults ≡ 0
  pub idle : numbers s.children ≡ []
  pub unasked : ForSome (told s.acts) (λ acts. length acts ≡ 0)

-- A spawner with no room, which tells nothing.
abbrev pub no_room : SpawnerState
no_room = record {
  lives = [];
  deaf = false;
  starts = record { made = 0; failing = []; faults = 0 };
  polls = 0;
  children = record { items = []; room = 0 };
  acts = None;
}
