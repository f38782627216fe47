use Rattle.sl_host_lines.proofs.line_sessions.join_with.Goals as goal
use Rattle.sl_host_lines.specs.Seats.{HasSeat}
use Rattle.sl_member.specs.Members.{MemberKept}
use Rattle.sl_trace.specs.declared.command.Command.TheVariants.{AddLockspace}
use Rattle.std.proofs.Common.{subst, sym, ◌∙◌}
use Rattle.std.specs.Prelude.{Option}

-- The member is the one that stood in its place.
pub join-requires-clause-seat : goal.join-requires-clause-seat
join-requires-clause-seat c =
    subst (λ (o : Option MemberKept). HasSeat c.args.host.now (AddLockspace c.args.lockspace.now) o) (sym c.take.ensures.value ∙ c.in-Some.is) c.requires.seat

-- There is one, so the place isn't empty.
pub returns-in-None : goal.returns-in-None
returns-in-None c =
    absurd (subst (λ (o : Option MemberKept). HasSeat c.args.host.now (AddLockspace c.args.lockspace.now) o) (sym c.take.ensures.value ∙ c.in-None.is) c.requires.seat)
