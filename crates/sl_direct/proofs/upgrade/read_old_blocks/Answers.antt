-- One more block was read, or no more is.
use Rattle.sl_direct.proofs.UpgradeLaws.{block_back, err_as, keeps_trans, old_one_more, stops_there}
use Rattle.sl_direct.proofs.upgrade.read_old_blocks.Goals as goal
use Rattle.sl_direct.specs.Upgrades.{AreOld}
use Rattle.std.proofs.Common.{Some, arith, rules, subst, sym, ◌+◌}

pub returns-in_err-block-clause-err : goal.returns-in_err-block-clause-err
returns-in_err-block-clause-err g c =
    let i = c.loop-before.invariant in
    let within = c.loop-before-test.true in
    let hosts = c.hosts-before-end.ensures.exact in
    err_as c.from_residual.result c.in_err-block.field-0.0 _ c.from_residual.ensures.1
    (stops_there c.args.geometry c.args.base (g.A.Area.content c.args.area.now) (g.A.Area.content c.loop-before.area) c.loop-before.blocks.items c.loop-before.before
    c.read_whole_block.new.out.items c.in_err-block.field-0.0 i.kept i.old i.count (omega (arith, within, hosts)) c.in_err-block.ensures.err)

pub loop-before-preserved : goal.loop-before-preserved
loop-before-preserved g c =
    let i = c.loop-before.invariant in
    let read = c.in_ok-block.ensures.ok in
    let before = g.A.Area.content c.args.area.now in
    let within = c.loop-before-test.true in
    let hosts = c.hosts-before-end.ensures.exact in
    let count = i.count in
    record {
      kept = keeps_trans before (g.A.Area.content c.loop-before.area) (g.A.Area.content c.read_whole_block.new.area) i.kept c.in_ok-block.ensures.kept;
      old = subst (λ bs. AreOld c.args.geometry c.args.base before bs) (sym c.in-Ok.ensures.items)
          (old_one_more c.args.geometry c.args.base before c.loop-before.blocks.items c.in_ok-block.block (c.loop-before.before + 1) i.old
          (block_back c.args.geometry c.args.base before (g.A.Area.content c.loop-before.area) (c.loop-before.before + 1) (Some c.in_ok-block.block) i.kept read.0) read.1 read.2
          (omega arith, omega (arith, within, hosts)) (omega (arith, count)));
      count = search rules;
      told = c.in_ok-block.ensures.same;
      later = search rules;
    }
