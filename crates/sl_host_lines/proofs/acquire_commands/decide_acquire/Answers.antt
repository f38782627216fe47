use Rattle.sl_host_lines.proofs.acquire_commands.decide_acquire.Goals as goal
use Rattle.sl_host_lines.specs.CommandRefusals.{acquire_in, first_refusal, refused_or}
use Rattle.sl_host_law.specs.Decisions.CommandDecisions.{with_member, busy_refused, limit_refused, member_acquires, member_refusal, pending_refused, process_refused}
use Rattle.sl_trace.specs.declared.effects.Spot.{Spot}
use Rattle.sl_trace.specs.declared.reply.Reply.{Reply}
use Rattle.sl_host.specs.BookQuestions.{state_in}
use Rattle.std.proofs.Common.{Option, [], ap, is_none, option_and_then, ◌∙◌, ◌∷◌}

pub returns-in-Some-acquire_refused : goal.returns-in-Some-acquire_refused
returns-in-Some-acquire_refused c =
    let h = state_in c.args.host.now.kept in
    let m = c.in-Some.member.now.state in
    let begun = member_acquires h m c.args.resource.now c.args.shared in
    let R : Spot → Option Reply = λ a. first_refusal (member_refusal m
    ∷ option_and_then (process_refused h) c.args.asking
    ∷ busy_refused h a c.args.asking c.args.shared
    ∷ pending_refused h a
    ∷ limit_refused h m a (is_none c.args.asking) ∷ []) in
    ap (λ q. refused_or q begun) (c.in-Some-acquire_refused.ensures ∙ ap R c.spot_of.ensures)
    ∙ ap (λ o. with_member o (λ k. acquire_in h k c.args.resource.now c.args.asking c.args.shared)) c.in-Some.ensures.exact

pub returns : goal.returns
returns c =
    let h = state_in c.args.host.now.kept in
    let m = c.in-Some.member.now.state in
    let begun = member_acquires h m c.args.resource.now c.args.shared in
    let R : Spot → Option Reply = λ a. first_refusal (member_refusal m
    ∷ option_and_then (process_refused h) c.args.asking
    ∷ busy_refused h a c.args.asking c.args.shared
    ∷ pending_refused h a
    ∷ limit_refused h m a (is_none c.args.asking) ∷ []) in
    c.begins.ensures
    ∙ (ap (λ q. refused_or q begun) (c.in_default-acquire_refused.ensures ∙ ap R c.spot_of.ensures)
    ∙ ap (λ o. with_member o (λ k. acquire_in h k c.args.resource.now c.args.asking c.args.shared)) c.in-Some.ensures.exact)
