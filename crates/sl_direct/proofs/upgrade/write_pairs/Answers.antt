-- One more pair stands before those of the last hosts, or one of its writes fails.
use Rattle.sl_area.specs.AreaSizes.{layout_of}
use Rattle.sl_direct.proofs.DiskLaws.{on_err}
use Rattle.sl_direct.proofs.UpgradeLaws.{down_broke, down_wrote}
use Rattle.sl_direct.proofs.upgrade.write_pairs.Goals as goal
use Rattle.std.proofs.Common.{arith, length, rules, ◌+◌, ◌-◌}

pub returns-in_err-write_pair-clause-failed : goal.returns-in_err-write_pair-clause-failed
returns-in_err-write_pair-clause-failed g c =
    let xs = c.args.blocks.now in
    let k = c.loop-behind.behind in
    let within = c.loop-behind-test.true in
    on_err c.from_residual.result _
    (down_broke (layout_of c.args.geometry) c.args.leader.now c.args.base xs (length xs - 1 - k) (length xs - k) _ _ _ _ (omega (arith, within)) (omega (arith, within))
    c.loop-behind.invariant.wrote c.in_err-write_pair.ensures.failed)

pub loop-behind-preserved : goal.loop-behind-preserved
loop-behind-preserved g c =
    let xs = c.args.blocks.now in
    let k = c.loop-behind.behind in
    let within = c.loop-behind-test.true in
    record {
      wrote = down_wrote (layout_of c.args.geometry) c.args.leader.now c.args.base xs (length xs - 1 - k) (length xs - k) (length xs - (k + 1)) _ _ _ _ (omega (arith, within)) (omega (arith, within))
          (omega arith) c.loop-behind.invariant.wrote c.in_ok-write_pair.ensures.ok;
      later = search rules;
    }
