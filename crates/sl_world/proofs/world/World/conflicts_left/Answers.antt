-- What is counted of the uses as they are kept.
use Rattle.sl_world.proofs.HeldThere.{before_are, calm_is, left_are}
use Rattle.sl_world.proofs.world.World.conflicts_left.Goals as goal
use Rattle.std.proofs.Common.{◌∙◌}

pub are_in_conflict-before-requires : goal.are_in_conflict-before-requires
are_in_conflict-before-requires g c = λ calm.
    before_are g.L.LockTable.locks c.args.self.now.kept c.lately-lately.result.land c.lately-lately.result.moment c.args.machine c.args.granted c.saturating_sub-first.result
    c.as_slice-machines.result.now c.held_on-held.result.now
    (record { land_is = c.lately-lately.ensures.land; moment_is = c.lately-lately.ensures.moment; all = c.as_slice-machines.ensures.value })
    c.held_on-held.ensures c.saturating_sub-first.ensures (c.requires calm)

pub returns-clause-count : goal.returns-clause-count
returns-clause-count g c =
    c.count_conflicts-left.ensures.count
    ∙ left_are g.L.LockTable.locks c.args.self.now.kept c.lately-lately.result.land c.lately-lately.result.moment c.args.machine c.args.granted c.saturating_sub-first.result
    c.as_slice-machines.result.now c.held_on-held.result.now
    (record { land_is = c.lately-lately.ensures.land; moment_is = c.lately-lately.ensures.moment; all = c.as_slice-machines.ensures.value })
    c.held_on-held.ensures c.saturating_sub-first.ensures

pub returns-clause-calm : goal.returns-clause-calm
returns-clause-calm g c =
    calm_is g.L.LockTable.locks c.args.self.now.kept c.lately-lately.result.land c.lately-lately.result.moment c.args.machine c.args.granted c.as_slice-machines.result.now
    c.held_on-held.result.now c.lingering_on-lingering.result.now c.args.calm c.count_conflicts-left.result.calm c.stays_calm.result
    (record { land_is = c.lately-lately.ensures.land; moment_is = c.lately-lately.ensures.moment; all = c.as_slice-machines.ensures.value })
    c.held_on-held.ensures c.lingering_on-lingering.ensures c.if-granted-eq0.false c.requires c.count_conflicts-left.ensures.calm c.stays_calm.ensures
