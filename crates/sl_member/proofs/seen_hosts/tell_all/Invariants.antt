use Rattle.sl_area.specs.AreaSizes.{layout_of}
use Rattle.sl_area.specs.AreaLayout.{read_at}
use Rattle.sl_member.proofs.seen_hosts.tell_all.Given as goal
use Rattle.sl_watch.specs.ToldLooks.{told_of}
use Rattle.std.proofs.Common.{◌-◌, ◌≡◌}
use Rattle.std.specs.List.{range_with_len}

abbrev pub invariant-loop-skipped : goal.invariant-loop-skipped
invariant-loop-skipped g l = record {
  told : l.watch ≡ told_of l.before l.after (λ id. read_at (layout_of l.geometry) (g.S.Sectors.bytes l.sectors) (id - 1)) (range_with_len 1 l.skipped) l.fn.watch;
  sizes : l.watch.sizes ≡ l.fn.watch.sizes;
  timing : l.watch.timing ≡ l.fn.watch.timing;
}
