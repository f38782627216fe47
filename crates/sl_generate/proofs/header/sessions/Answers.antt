-- The name of a machine's daemon is a name, and one line more stands.
use Rattle.sl_generate.proofs.HeaderLaws.{one_session}
use Rattle.sl_generate.proofs.NameLaws.{lettered}
use Rattle.sl_generate.proofs.header.sessions.Goals as goal
use Rattle.std.proofs.Common.{ap, arith, refl, ◌∙◌}
use Rattle.std.specs.Prelude.{codes, decimal, ◌++◌}

pub numbered-requires : goal.numbered-requires
numbered-requires c =
    let is = c.from.ensures in
    let more = c.loop-machine-test.true in
    let few = c.requires in
    lettered 104 c.from.result refl (omega (arith, is, more, few))

pub loop-machine-preserved : goal.loop-machine-preserved
loop-machine-preserved c =
    let more = c.loop-machine-test.true in (
      omega (arith, more),
      one_session c.loop-machine.machine c.loop-machine.lines.items c.push.new.self.items c.lockspace.result c.in_ok-numbered.field-0 c.loop-machine.invariant.1 c.lockspace.ensures
          (c.in_ok-numbered.ensures ∙ ap (λ n. codes "h" ++ decimal n) c.from.ensures) c.in_ok-push.ensures.items,
    )
