use Rattle.sl_sector.proofs.fields.all_hold.Given as goal
use Rattle.sl_sector.specs.SectorLayouts.{under_rules}
use Rattle.std.proofs.Common.{drop, ◌≡◌}

-- the rules before this one hold
abbrev pub invariant-loop-given : goal.invariant-loop-given
invariant-loop-given l = under_rules l.rules (tt {0}) ≡ under_rules (drop l.given-index l.rules) (tt {0})
