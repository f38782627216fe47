use Rattle.sl_host_state.specs.MadeEffects.{with_member}
use Rattle.sl_member.specs.Members.{blank_member}
use Rattle.sl_trace.specs.Sessions.{given_session}
use Rattle.sl_host.proofs.BeginningStand.{said_at, seated_more}
use Rattle.sl_host.proofs.new_host.seat_all.Goals as goal
use Rattle.sl_host.specs.NewHosts.{MayBeGiven}
use Rattle.sl_host.specs.MemberRun.{run_in}
use Rattle.std.proofs.Common.{ap, ◌∙◌}

pub seat-requires-clause-given : goal.seat-requires-clause-given
seat-requires-clause-given c = said_at (MayBeGiven c.args.config.now.sizes) c.args.given.now c.loop-place.place c.given_at.result.now c.requires.given c.given_at.ensures

-- One more is seated.
pub loop-place-preserved : goal.loop-place-preserved
loop-place-preserved c =
    let run = run_in c.args.config.now in
    let g = c.given_at.result.now in
    let same = c.in_ok-seat.ensures.same in (
      c.in_ok-seat.ensures.members
          ∙ (ap (λ ms. with_member (blank_member run (given_session (c.loop-place.place, g))) ms) c.loop-place.invariant.0 ∙ seated_more run c.args.given.now c.loop-place.place g c.given_at.ensures),
      same.0 ∙ c.loop-place.invariant.1,
      same.1 ∙ c.loop-place.invariant.2,
    )
