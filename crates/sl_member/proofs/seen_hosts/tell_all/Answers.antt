use Rattle.sl_area.specs.AreaSizes.{layout_of}
use Rattle.sl_area.specs.AreaLayout.{read_at}
use Rattle.sl_member.proofs.Ranges.{told_more}
use Rattle.sl_member.proofs.seen_hosts.tell_all.Goals as goal
use Rattle.sl_watch.specs.ToldLooks.{told_at}
use Rattle.std.proofs.Common.{ap, sym, ◌+◌, ◌-◌, ◌∙◌}

pub loop-skipped-preserved : goal.loop-skipped-preserved
loop-skipped-preserved g c =
    let k = c.loop-skipped.skipped in
    let layout = layout_of c.args.geometry.now in
    let bytes = g.S.Sectors.bytes c.args.sectors.now in
    record {
      told = c.tell.ensures.exact ∙ ap (told_at c.args.before c.args.after (k + 1) (read_at layout bytes (k + 1 - 1))) c.loop-skipped.invariant.told
          ∙ sym (told_more c.args.before c.args.after (λ id. read_at layout bytes (id - 1)) k c.args.watch.now);
      sizes = c.tell.ensures.run.0 ∙ c.loop-skipped.invariant.sizes;
      timing = c.tell.ensures.run.1 ∙ c.loop-skipped.invariant.timing;
    }
