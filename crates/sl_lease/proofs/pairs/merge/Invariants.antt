use Rattle.sl_area.specs.Pairs.{later_pair}
use Rattle.sl_lease.proofs.pairs.merge.Given as goal
use Rattle.sl_sector.specs.Records.{IsPair}
use Rattle.std.specs.Prelude.{All, IfSome, None, length, slice_index_or, ℕ, ◌<◌, ◌≡◌, ◌≤◌}

abbrev pub invariant-loop-before : goal.invariant-loop-before
invariant-loop-before l = record {
  places : length l.last ≡ length l.initial.last;
  done : (k : ℕ) → k < l.before → slice_index_or l.last k None ≡ later_pair (slice_index_or l.first k None) (slice_index_or l.initial.last k None);
  left : (k : ℕ) → l.before ≤ k → slice_index_or l.last k None ≡ slice_index_or l.initial.last k None;
  rules : All (λ o. IfSome o IsPair) l.last;
}
