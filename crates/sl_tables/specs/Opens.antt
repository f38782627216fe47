-- Calls without an answer.
use Rattle.sl_host_state.specs.declared.kept_parts.OpenCall.{OpenCall}
use Rattle.sl_trace.specs.Traces.{same_spot}
use Rattle.sl_trace.specs.declared.effects.Spot.{Spot}
use Rattle.sl_words.specs.Words.{least}
use Rattle.std.specs.List.{AllByRecursion}
use Rattle.std.specs.Prelude.{Bool, List, Option, filter, find, is_none, map, option_map, ℕ, ◌%◌, ◌&&◌, ◌-◌, ◌==◌, ◌≡◌}

-- The calls, the oldest first; above which number the next is; for how many more there is memory; the bytes of an area.
pub record OpenState : Type 0 where
  pub calls : List OpenCall
  pub next : ℕ
  pub room : ℕ
  pub area : ℕ

-- The area on which a call is.
abbrev pub area_of : ℕ → OpenCall → Spot
area_of area c = record { path = c.path; base = c.offset - c.offset % area }

-- Whether the call is on this area.
abbrev pub is_on_area : ℕ → Spot → OpenCall → Bool
is_on_area area at c = same_spot at (area_of area c)

-- The number of the first call on an area.
abbrev pub first_on : ℕ → Spot → List OpenCall → Option ℕ
first_on area at cs = option_map (λ c. c.number) (find (is_on_area area at) cs)

-- The least number of the calls on an area.
abbrev pub least_on : ℕ → Spot → List OpenCall → Option ℕ
least_on area at cs = least (map (λ c. c.number) (filter (is_on_area area at) cs))

-- Each call stands at its own number.
abbrev pub AreNumbered : List (ℕ × OpenCall) → Type 0
AreNumbered items = AllByRecursion (λ p. p.1.number ≡ p.0) items

-- Whether the call is a write of a session.
abbrev pub is_write_of : ℕ → OpenCall → Bool
is_write_of session c = c.session == session && is_none c.sectors
