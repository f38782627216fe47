use Rattle.sl_area.specs.AreaSizes.{layout_of}
use Rattle.sl_member.proofs.surveys.is_asked.Given as goal
use Rattle.sl_member.specs.SeenSessions.{asks_by}
use Rattle.std.proofs.Common.{false, ◌≡◌}
use Rattle.std.specs.List.{list_any, range_with_len}

abbrev pub invariant-loop-skipped : goal.invariant-loop-skipped
invariant-loop-skipped g l = list_any (asks_by (layout_of l.geometry) l.id (g.S.Sectors.bytes l.sectors)) (range_with_len 1 l.skipped) ≡ false
