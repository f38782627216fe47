use Rattle.sl_area.specs.AreaSizes.{layout_of}
use Rattle.sl_member.proofs.CallsWork.{mapped_rises, value_stays}
use Rattle.sl_member.proofs.leases.Leases.sets_value.Goals as goal
use Rattle.sl_member.specs.Leases.{AreByPlace, value_set}
use Rattle.std.proofs.Common.{arith, drop, length, map, subst, sym, take, ◌++◌, ◌≡◌}
use Rattle.std.proofs.lemmas.Grind.{common_steps}

pub invariant_of-self : goal.invariant_of-self
invariant_of-self c =
    let f = value_set (layout_of c.args.geometry.now) c.args.path.now c.args.offset c.args.value in
    let items = c.self.inside.items.items in
    let all : take c.self.inside.items.len (c.set_values.new.leases ++ drop (length c.set_values.new.leases) items) ≡ map f items = grind (arith, common_steps) in (
      subst AreByPlace (sym all) (mapped_rises f (value_stays (layout_of c.args.geometry.now) c.args.path.now c.args.offset c.args.value) items c.self.invariant.0),
      c.self.invariant.1,
    )
