use Rattle.sl_command.proofs.words.push_each.Given as goal
use Rattle.sl_command.specs.OutputLines.{KeepsFronts}
use Rattle.std.proofs.Common.{decimal, take, ◌++◌, ◌≡◌, ◌∷◌}
use Rattle.std.specs.List.{flat_map}

-- the numbers before this one have been added
abbrev pub invariant-loop-number : goal.invariant-loop-number
invariant-loop-number l = record {
  written : l.out.items ≡ l.fn.out.items ++ flat_map (λ n. 32 ∷ decimal n) (take l.number-index l.numbers);
  kept : KeepsFronts l.fn.out.items l.out.items;
}
