use Rattle.sl_area.specs.AreaSizes.{layout_of}
use Rattle.sl_member.proofs.CallsWork.{lease_works, nothing_works}
use Rattle.sl_member.proofs.leases.Leases.calling.Goals as goal
use Rattle.sl_trace.specs.Traces.{new_call}
use Rattle.std.proofs.Common.{sym, ◌∙◌}

pub returns-in-Some : goal.returns-in-Some
returns-in-Some c =
    lease_works (layout_of c.args.geometry.now) (new_call 0 0 c.args.call.now) c.in-Some.work c.in-Some.step c.args.self.now c.open.new.self c.called.new.self c.spot_of-at.result
    (sym c.lease_step.ensures ∙ c.in-Some.is) c.spot_of-at.ensures c.open.ensures.leases c.open.ensures.room c.called.ensures

pub returns-in-None-value_of : goal.returns-in-None-value_of
returns-in-None-value_of c =
    nothing_works (layout_of c.args.geometry.now) (new_call 0 0 c.args.call.now) c.args.self.now (sym c.lease_step.ensures ∙ c.in-None.is) (sym c.value_of.ensures ∙ c.in-None-value_of.is)
