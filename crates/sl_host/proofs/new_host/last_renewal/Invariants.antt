use Rattle.sl_host.proofs.new_host.last_renewal.Given as goal
use Rattle.sl_words.specs.Words.{greatest}
use Rattle.std.proofs.Common.{map, take, ◌≡◌}

abbrev pub invariant-loop-place : goal.invariant-loop-place
invariant-loop-place l = l.last ≡ greatest (map (λ g. g.renewed) (take l.place l.given))
