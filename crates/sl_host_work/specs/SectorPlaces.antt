-- Where sectors stand, and what may be written.
use Rattle.sl_area.specs.AreaSizes.{Sizes, layout_of}
use Rattle.sl_area.specs.AreaLayout.{is_base}
use Rattle.sl_trace.specs.declared.session.Session.{Session}
use Rattle.std.specs.Prelude.{IsTrue, ℕ, ◌≤◌}

-- The session's area stands at a base, and its id is one of the run's.
pub record IsPlaced (z : Sizes) (s : Session) : Type 0 where
  pub id : (1 ≤ s.id) × (s.id ≤ z.hosts)
  pub base : IsTrue (is_base (layout_of z) s.offset)

-- The area of a resource stands at a base.
abbrev pub IsArea : Sizes → ℕ → Type 0
IsArea z base = IsTrue (is_base (layout_of z) base)
