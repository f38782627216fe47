-- The world at moment 0.
use Rattle.sl_area.specs.AreaSizes.{Layout, layout_with}
use Rattle.sl_run.specs.Conflicts.{has_conflict, holding, lingering_holding, no_holdings}
use Rattle.sl_run.specs.RunLaws.{NothingIsHeldAtFirst}
use Rattle.sl_run.specs.Worlds.{Program, lingers, machine_of_header}
use Rattle.sl_run.specs.declared.header.Header.{Header}
use Rattle.std.proofs.Common.{ap, ap₂}
use Rattle.std.specs.List.{enumerate_from, range_with_len}
use Rattle.std.specs.Prelude.{List, filter, flat_map, map, refl, [], ℕ, ◌++◌, ◌+◌, ◌∷◌, ◌≡◌}

-- No machine of a header holds anything, and nothing lingers there.
none_held : (p : Program) (g : Layout) (h : Header) (i : ℕ) (ns : List ℕ) →
    flat_map (λ q. map (holding q.0) q.1.holdings) (enumerate_from i (map (machine_of_header p g h) ns)) ≡ no_holdings
unfolding machine_of_header
none_held p g h i [] = refl
none_held p g h i (n ∷ ns) = none_held p g h (i + 1) ns

none_lingers : (p : Program) (g : Layout) (h : Header) (i : ℕ) (ns : List ℕ) →
    flat_map (λ q. map (lingering_holding q.0) (filter (lingers h.timing.land 0) q.1.lingering)) (enumerate_from i (map (machine_of_header p g h) ns)) ≡ no_holdings
unfolding machine_of_header
none_lingers p g h i [] = refl
none_lingers p g h i (n ∷ ns) = none_lingers p g h (i + 1) ns

pub nothing_is_held_at_first : NothingIsHeldAtFirst
nothing_is_held_at_first p h =
    let ns : List ℕ = range_with_len 1 h.machines in
    ap has_conflict (ap₂ (λ xs ys. xs ++ ys) (none_held p (layout_with p.digest h.geometry) h 1 ns) (none_lingers p (layout_with p.digest h.geometry) h 1 ns))
