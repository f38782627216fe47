-- Whom a session counts as over, by what it has seen and who it is.
use Rattle.sl_area.specs.AreaSizes.{Layout}
use Rattle.sl_area.specs.AreaLayout.{delta_of}
use Rattle.sl_sector.specs.Bitmaps.{is_bit_set}
use Rattle.sl_trace.specs.declared.reply.Evidence.{Evidence}
use Rattle.sl_watch.specs.Summaries.{bare, evidence_by}
use Rattle.sl_watch.specs.Watches.{Watched, kept_at}
use Rattle.sl_words.specs.Words.{some_is}
use Rattle.std.specs.Int.{is_in_range}
use Rattle.std.specs.List.{list_any, range_with_len}
use Rattle.std.specs.Prelude.{Bool, List, None, Option, bytes_eq, cond, false, is_some, nat_lt, not, true, ℕ, ◌&&◌, ◌==◌}

-- The session's watch, its id and generation, and whether it is joined.
pub record SeenBy : Type 0 where
  pub watch : Watched
  pub id : ℕ
  pub generation : ℕ
  pub joined : Bool

-- Why a generation of an id counts as over, by what was seen: of an id that no host has, nothing is.
abbrev pub evidence_of : Watched → ℕ → ℕ → Option Evidence
evidence_of w id generation = cond (is_in_range 1 w.sizes.hosts id) (evidence_by w.timing generation (bare (kept_at w id))) None

-- Whether it counts as over: by evidence, or as an older one of its own id once it is joined.
abbrev pub over_by : SeenBy → ℕ → ℕ → Bool
over_by s id generation =
    elim (is_some (evidence_of s.watch id generation)) [ true ↦ true | false ↦ id == s.id && nat_lt generation s.generation && s.joined ]

-- Whether the bytes of all delta sectors show an id under another name or generation: `shows_other_in` of a setting with this layout and
-- name.
abbrev pub shows_other_by : Layout → List ℕ → ℕ → ℕ → List ℕ → Bool
shows_other_by g name id generation bytes =
    some_is (λ d. d.id == id && not (d.generation == generation && some_is (λ n. bytes_eq n name) d.host)) (delta_of g bytes id)

-- Whether an id's sector among them has the bit of another.
abbrev pub asks_by : Layout → ℕ → List ℕ → ℕ → Bool
asks_by g id bytes from = some_is (λ d. is_bit_set d.bitmap id) (delta_of g bytes from)

-- Whether one of them has it: `is_session_asked`.
abbrev pub is_asked_by : Layout → ℕ → List ℕ → Bool
is_asked_by g id bytes = list_any (asks_by g id bytes) (range_with_len 1 g.hosts)
