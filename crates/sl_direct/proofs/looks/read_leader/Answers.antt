-- The one line that is told.
use Rattle.sl_direct.proofs.LookLaws.{leader_told, other_told}
use Rattle.sl_direct.proofs.looks.read_leader.Goals as goal
use Rattle.std.proofs.Common.{ap, rules}

pub returns-in-Ok-true-clause-acted : goal.returns-in-Ok-true-clause-acted
returns-in-Ok-true-clause-acted g c =
    leader_told c.args.resource.now c.args.geometry _ _ _ c.read.new.buffer _ _ _ c.in-Ok.ensures.kept (search rules) (ap (λ p. p.offset) c.leader_place.ensures)
    c.in-Ok.ensures.bytes c.requires.first c.in-Ok-true.ensures.ok c.in-Ok-true.field-0-test c.in-Ok-true.ensures.right

pub returns-in-Ok-false-clause-acted : goal.returns-in-Ok-false-clause-acted
returns-in-Ok-false-clause-acted g c =
    other_told c.args.resource.now c.args.geometry _ _ _ c.read.new.buffer _ _ _ c.in-Ok.ensures.kept (search rules) (ap (λ p. p.offset) c.leader_place.ensures)
    c.in-Ok.ensures.bytes c.requires.first c.in-Ok-false.ensures.ok c.in-Ok-false.field-0-test c.in-Ok-false.ensures.right
