-- What a machine holds, as rows of what bars of holdings show.
use Rattle.sl_picture.specs.HeldBars.{Row}
use Rattle.sl_picture.specs.declared.shapes.Shape.TheVariants as shape
use Rattle.sl_picture.specs.declared.shapes.Shape.{Shape}
use Rattle.sl_run.specs.Worlds.{World, machine_at}
use Rattle.sl_trace.specs.EffectTexts.{of_resource}
use Rattle.sl_trace.specs.declared.effects.Grant.{Grant}
use Rattle.sl_trace.specs.declared.effects.Mode.TheVariants.{Exclusive, Shared}
use Rattle.sl_trace.specs.declared.effects.Mode.{Mode}
use Rattle.std.specs.Option.{option_map_or}
use Rattle.std.specs.Prelude.{List, map, [], ℕ}

-- The shape of a bar of a holding in this mode.
abbrev pub shape_of : Mode → Shape
shape_of Exclusive = shape.Exclusive
shape_of Shared = shape.Shared

-- What the bar of a holding should show.
abbrev pub row_of : Grant → Row
row_of g = record { process = g.process; resource = of_resource g.lockspace g.resource; shape = shape_of g.mode; instance = g.lver }

-- What a machine holds, in the order of its grants.
abbrev pub holdings_on : World → ℕ → List Grant
holdings_on w m = option_map_or (λ a. a.holdings) (machine_at w m) []

abbrev pub held_on : World → ℕ → List Row
held_on w m = map row_of (holdings_on w m)
