-- The action that it is.
use Rattle.sl_direct.proofs.direct.act.Goals as goal
use Rattle.sl_direct.specs.HalfDone.{HasActed}
use Rattle.sl_direct.specs.declared.action.Action.{Action}
use Rattle.std.proofs.Common.{subst, sym}

pub returns-in-InitLockspace-clause-acted : goal.returns-in-InitLockspace-clause-acted
returns-in-InitLockspace-clause-acted g c =
    subst (λ (a : Action). HasActed a (g.A.Area.content c.args.area.now) (g.A.Area.content c.init_lockspace.new.area) c.init_lockspace.new.out.items c.init_lockspace.result)
    (sym c.in-InitLockspace.is) c.init_lockspace.ensures.acted

pub returns-in-InitLabelled-clause-acted : goal.returns-in-InitLabelled-clause-acted
returns-in-InitLabelled-clause-acted g c =
    subst (λ (a : Action). HasActed a (g.A.Area.content c.args.area.now) (g.A.Area.content c.init_labelled.new.area) c.init_labelled.new.out.items c.init_labelled.result)
    (sym c.in-InitLabelled.is) c.init_labelled.ensures.acted

pub returns-in-InitResource-clause-acted : goal.returns-in-InitResource-clause-acted
returns-in-InitResource-clause-acted g c =
    subst (λ (a : Action). HasActed a (g.A.Area.content c.args.area.now) (g.A.Area.content c.init_resource.new.area) c.init_resource.new.out.items c.init_resource.result)
    (sym c.in-InitResource.is) c.init_resource.ensures.acted

pub returns-in-ReadLeader-clause-acted : goal.returns-in-ReadLeader-clause-acted
returns-in-ReadLeader-clause-acted g c =
    subst (λ (a : Action). HasActed a (g.A.Area.content c.args.area.now) (g.A.Area.content c.read_leader.new.area) c.read_leader.new.out.items c.read_leader.result)
    (sym c.in-ReadLeader.is) c.read_leader.ensures.acted

pub returns-in-Upgrade-clause-acted : goal.returns-in-Upgrade-clause-acted
returns-in-Upgrade-clause-acted g c =
    subst (λ (a : Action). HasActed a (g.A.Area.content c.args.area.now) (g.A.Area.content c.upgrade.new.area) c.upgrade.new.out.items c.upgrade.result)
    (sym c.in-Upgrade.is) c.upgrade.ensures.acted

pub returns-in-Dump-clause-acted : goal.returns-in-Dump-clause-acted
returns-in-Dump-clause-acted g c =
    subst (λ (a : Action). HasActed a (g.A.Area.content c.args.area.now) (g.A.Area.content c.dump.new.area) c.dump.new.out.items c.dump.result)
    (sym c.in-Dump.is) c.dump.ensures.acted
