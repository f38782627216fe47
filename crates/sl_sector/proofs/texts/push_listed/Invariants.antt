use Rattle.sl_sector.proofs.texts.push_listed.Given as goal
use Rattle.std.proofs.Common.{decimal, take, ◌++◌, ◌≡◌, ◌∷◌}
use Rattle.std.specs.List.{flat_map}

-- the numbers before this one have been added
abbrev pub invariant-loop-number : goal.invariant-loop-number
invariant-loop-number l = l.line.items ≡ l.fn.line.items ++ flat_map (λ k. 44 ∷ decimal k) (take l.number-index l.numbers)
