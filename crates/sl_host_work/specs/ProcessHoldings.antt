-- What a process holds.
use Rattle.sl_trace.specs.Traces.{has_orphan_of, orphan_of, same_place}
use Rattle.sl_trace.specs.declared.effects.Grant.{Grant}
use Rattle.std.specs.List.{AllByRecursion}
use Rattle.std.specs.Prelude.{Bool, List, [], cond, false, filter, not, true, ℕ, ◌&&◌, ◌++◌, ◌==◌, ◌∷◌, ◌≡◌}

-- Its holdings.
abbrev pub held_by : ℕ → List Grant → List Grant
held_by p held = filter (λ g. g.process == p) held

-- It holds no place twice.
abbrev pub HoldsOnce : ℕ → List Grant → Type 0
HoldsOnce p [] = Unit {0}
HoldsOnce p (g ∷ gs) = ((g.process == p) ≡ true → AllByRecursion (λ k. (k.process == p && same_place g.path g.offset k.path k.offset) ≡ false) gs) × HoldsOnce p gs

-- Whether one that ends leaves an orphan: it is persistent, and its area has none.
abbrev pub leaves_at : List Grant → Grant → Bool
leaves_at held g = g.persistent && not (has_orphan_of held g)

-- What is noted, with the orphan that it leaves.
abbrev pub with_orphan : List Grant → Grant → List Grant → List Grant
with_orphan held g noted = cond (leaves_at held g) (noted ++ orphan_of g ∷ []) noted
