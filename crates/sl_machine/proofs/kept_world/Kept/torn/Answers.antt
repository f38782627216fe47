use Rattle.sl_machine.proofs.PlainOptions.{some_holds}
use Rattle.sl_machine.proofs.Refusals.{torn_whole}
use Rattle.sl_machine.proofs.kept_world.Kept.torn.Goals as goal
use Rattle.sl_machine.specs.CallWrites.{LeavesWhole}
use Rattle.sl_machine.specs.KeptParts.{kept_state}
use Rattle.std.proofs.Common.{◌∙◌}
use Rattle.std.specs.Arc.{arc_value}

pub returns-in_ok-image-in-Some-clause-some : goal.returns-in_ok-image-in-Some-clause-some
unfolding kept_state
returns-in_ok-image-in-Some-clause-some g c =
    let k = kept_state g.L.LockTable.locks c.args.self.now in
    let whole = some_holds (λ x. LeavesWhole k c.args.machine c.args.call x.place (arc_value x.image)) c.in_ok-landing.field-0 c.in-Some.landing c.in-Some.is c.in_ok-landing.ensures.some in
    torn_whole k c.args.machine c.args.call c.args.kept c.args.given.now c.in-Some.landing.place (arc_value c.in-Some.landing.image) (arc_value c.in_ok-image-in-Some.image) whole
    c.in_ok-image-in-Some.ensures.bytes (c.in_ok-image-in-Some.ensures.sized ∙ c.sector-sector.ensures)
