-- The name of a resource is a name, and one line more stands.
use Rattle.sl_generate.proofs.HeaderLaws.{one_resource}
use Rattle.sl_generate.proofs.NameLaws.{lettered}
use Rattle.sl_generate.proofs.header.resources.Goals as goal
use Rattle.std.proofs.Common.{arith, refl, ◌+◌}

pub numbered-requires : goal.numbered-requires
numbered-requires c = let few = c.loop-number-test.true in lettered 114 (c.loop-number.number + 1) refl (omega (arith, few))

pub loop-number-preserved : goal.loop-number-preserved
loop-number-preserved c =
    let few = c.loop-number-test.true in (
      omega (arith, few),
      one_resource c.loop-number.number c.loop-number.lines.items c.push.new.self.items c.lockspace.result c.in_ok-numbered.field-0 c.path.result c.loop-number.invariant.1 c.lockspace.ensures
          c.in_ok-numbered.ensures c.path.ensures c.in_ok-push.ensures.items,
    )
