use Rattle.sl_host_law.specs.StepParts.Ends.{finishing}
use Rattle.sl_host_law.specs.StepParts.Signals.{over}
use Rattle.sl_host_law.specs.Steps.Passes.{at_member}
use Rattle.sl_host_passes.proofs.session_finish.finish.Goals as goal
use Rattle.sl_host_state.specs.KeptState.{MemberState, state_of}
use Rattle.std.proofs.Common.{ap, arith, ◌∙◌}
use Rattle.std.proofs.lemmas.List.{length-map}
use Rattle.std.specs.Prelude.{length}

pub finish_noted-requires-clause-left : goal.finish_noted-requires-clause-left
finish_noted-requires-clause-left c =
    let many = ap (λ v. length v.items) c.note_members.ensures ∙ length-map c.args.host.now.kept.members (λ (m : MemberState). m.who.number) in omega (arith, many, c.requires.left)

pub finish_noted-requires-clause-calls : goal.finish_noted-requires-clause-calls
finish_noted-requires-clause-calls c =
    let many = ap (λ v. length v.items) c.note_members.ensures ∙ length-map c.args.host.now.kept.members (λ (m : MemberState). m.who.number) in omega (arith, many, c.requires.calls)

pub returns-clause-state : goal.returns-clause-state
returns-clause-state c read = c.finish_noted.ensures.state read ∙ ap (λ v. over v.items (λ n. at_member n finishing) (state_of read c.args.host.now.kept)) c.note_members.ensures

pub returns-clause-left : goal.returns-clause-left
returns-clause-left c =
    let many = ap (λ v. length v.items) c.note_members.ensures ∙ length-map c.args.host.now.kept.members (λ (m : MemberState). m.who.number) in
    (omega (arith, many, c.finish_noted.ensures.left.0), omega (arith, many, c.finish_noted.ensures.left.1))
