use Rattle.sl_host.proofs.passes.note_members.Given as goal
use Rattle.std.proofs.Common.{map, take, ◌≡◌}

abbrev pub invariant-loop-place : goal.invariant-loop-place
invariant-loop-place l = l.notes ≡ record { items = map (λ m. m.who.number) (take l.place l.members.members); most = l.fn.notes.most }
