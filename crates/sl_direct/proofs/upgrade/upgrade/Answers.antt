-- All was read, or a block was not.
use Rattle.sl_direct.proofs.UpgradeLaws.{pairs_up, stopped_behind}
use Rattle.sl_direct.proofs.upgrade.upgrade.Goals as goal
use Rattle.sl_direct.specs.Upgrades.{PairsUp}
use Rattle.std.proofs.Common.{subst}

pub returns-in-Ok-read_old_blocks-clause-acted : goal.returns-in-Ok-read_old_blocks-clause-acted
returns-in-Ok-read_old_blocks-clause-acted g c =
    let r = c.args.resource.now in
    let geometry = c.args.geometry in
    let read = g.A.Area.content c.read_old_blocks.new.area in
    let left = g.A.Area.content c.pair_up.new.area in
    pairs_up r geometry c.in-Ok.leader c.in-Ok-read_old_blocks.blocks.items (g.A.Area.content c.args.area.now) (g.A.Area.content c.read_old_leader.new.area) read left
    c.pair_up.new.out.items c.pair_up.result c.read_old_leader.ensures.kept c.read_old_blocks.ensures.kept c.in-Ok.ensures.ok.0 c.in-Ok-read_old_blocks.ensures.ok.0
    c.in-Ok-read_old_blocks.ensures.ok.1
    (subst (λ bs. PairsUp r geometry c.in-Ok.leader bs read left c.pair_up.new.out.items c.pair_up.result) c.deref.ensures.value c.pair_up.ensures.acted)

pub returns-in-Err-read_old_blocks-clause-acted : goal.returns-in-Err-read_old_blocks-clause-acted
returns-in-Err-read_old_blocks-clause-acted g c =
    let stop = c.in-Err-read_old_blocks.ensures.err in
    stopped_behind c.args.resource.now c.args.geometry c.in-Ok.leader stop.0 (g.A.Area.content c.args.area.now) (g.A.Area.content c.read_old_leader.new.area)
    (g.A.Area.content c.read_old_blocks.new.area) c.read_old_blocks.new.out.items c.in-Err-read_old_blocks.stopped c.read_old_leader.ensures.kept c.read_old_blocks.ensures.kept
    c.in-Ok.ensures.ok.0 stop.1 stop.2 stop.3
