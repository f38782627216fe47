use Rattle.sl_host_state.specs.KeptState.{MemberState}
use Rattle.sl_trace.specs.declared.session.Session.{Session}
use Rattle.sl_host.proofs.ListScans.{find_here, find_more, find_none}
use Rattle.sl_host.proofs.told_answers.over_number.Goals as goal
use Rattle.sl_host.specs.HeardAnswers.{is_over_in}
use Rattle.std.proofs.Common.{Some, ap, arith, option_map, sym, ◌∙◌}

pub loop-place-preserved : goal.loop-place-preserved
loop-place-preserved c =
    find_more (is_over_in c.args.unanswered.now.calls) c.args.members.now.members c.loop-place.place c.nth-member.result.now.state c.nth-member.ensures c.loop-place.invariant (sym c.if-is_over.ensures)

pub returns-then-is_over : goal.returns-then-is_over
returns-then-is_over c =
    ap (λ (s : Session). Some s.number) c.who.ensures
    ∙ sym (ap (option_map (λ (s : MemberState). s.who.number)) (find_here (is_over_in c.args.unanswered.now.calls) c.args.members.now.members c.loop-place.place c.nth-member.result.now.state c.nth-member.ensures c.loop-place.invariant (sym c.if-is_over.ensures)))

pub returns : goal.returns
returns c =
    ap (option_map (λ (s : MemberState). s.who.number)) (find_none (is_over_in c.args.unanswered.now.calls) c.args.members.now.members c.loop-place.place (omega (arith, c.loop-place-test.false, c.len-place-end.ensures)) c.loop-place.invariant)
