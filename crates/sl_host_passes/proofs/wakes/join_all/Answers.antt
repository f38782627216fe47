use Rattle.sl_host_law.specs.Answers.WakingsFollow.{joining_by_time}
use Rattle.sl_host_law.specs.StepParts.Signals.{over}
use Rattle.sl_host_law.specs.Steps.Passes.{at_member, for_members}
use Rattle.sl_host_passes.proofs.LessIsLeft.{lessened, no_more}
use Rattle.sl_host_passes.proofs.PartsLessen.{for_all}
use Rattle.sl_host_passes.proofs.WakingLessens.{by_joining}
use Rattle.sl_host_passes.proofs.wakes.join_all.Goals as goal
use Rattle.sl_host_state.specs.KeptState.{MemberState, state_of}
use Rattle.std.proofs.Common.{ap, arith, ◌∙◌}
use Rattle.std.proofs.lemmas.List.{length-map}
use Rattle.std.specs.Prelude.{length}

pub join_noted-requires-clause-left : goal.join_noted-requires-clause-left
join_noted-requires-clause-left c =
    let many = ap (λ v. length v.items) c.note_members.ensures ∙ length-map c.args.host.now.kept.members (λ (m : MemberState). m.who.number) in omega (arith, many, c.requires.left)

pub join_noted-requires-clause-calls : goal.join_noted-requires-clause-calls
join_noted-requires-clause-calls c =
    let many = ap (λ v. length v.items) c.note_members.ensures ∙ length-map c.args.host.now.kept.members (λ (m : MemberState). m.who.number) in omega (arith, many, c.requires.calls)

pub returns-clause-state : goal.returns-clause-state
returns-clause-state c read = c.join_noted.ensures.state read ∙ ap (λ v. over v.items (λ n. at_member n joining_by_time) (state_of read c.args.host.now.kept)) c.note_members.ensures

pub returns-clause-left : goal.returns-clause-left
returns-clause-left c =
    let many = ap (λ v. length v.items) c.note_members.ensures ∙ length-map c.args.host.now.kept.members (λ (m : MemberState). m.who.number) in
    (omega (arith, many, c.join_noted.ensures.left.0), omega (arith, many, c.join_noted.ensures.left.1))

pub returns-clause-fewer : goal.returns-clause-fewer
returns-clause-fewer c =
    no_more c.args.host.now.kept c.join_noted.new.host.kept (lessened c.args.host.now c.join_noted.new.host (for_members joining_by_time) (for_all joining_by_time by_joining) (returns-clause-state c))
